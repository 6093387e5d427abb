-- The laws of `deblur`, by subject.
pub mod Along
pub mod Before
pub mod Calls
pub mod Conditions
pub mod Decided
pub mod Determined
pub mod Drum
pub mod Examples
pub mod LineByLine
pub mod PictureLaws
pub mod Refusals
pub mod RowStride
pub mod Same
pub mod Scattering
