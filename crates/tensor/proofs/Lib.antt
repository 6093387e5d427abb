-- The laws of `tensor`, by subject.
pub mod Answer
pub mod Conditions
pub mod Eigenvalues
pub mod Floor
pub mod FloorExamples
pub mod Gradient
pub mod Same
pub mod TensorDirection
pub mod TensorExamples
