-- Laws of `summary`.
pub mod Tallies
pub mod Parts
pub mod Turn
pub mod Answer
pub mod Faults
pub mod Conditions
pub mod Sheets
pub mod Given
pub mod Reordering
pub mod Examples
