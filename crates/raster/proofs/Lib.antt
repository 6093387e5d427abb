-- The laws of `raster`, by subject.
pub mod Area
pub mod BorderExamples
pub mod BorderMap
pub mod Codes
pub mod LastAngle
pub mod Place
pub mod Rest
pub mod RestFloats
pub mod Scatter
pub mod Snapped
