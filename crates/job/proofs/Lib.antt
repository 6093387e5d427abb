-- The laws of `job`, by subject.
pub mod Before
pub mod Conditions
pub mod Determined
pub mod Examples
pub mod Floor
pub mod JobExamples
pub mod NearPicture
pub mod Plans
pub mod Same
pub mod Settings
pub mod Assembly
pub mod Demands
pub mod WrongPrograms
