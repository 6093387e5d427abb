-- What the contracts of `tensor` cite.
pub mod Tensor
pub mod Confidence
