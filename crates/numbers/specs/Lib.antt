-- What the contracts of `numbers` cite.
pub mod Scalar
pub mod Sum
pub mod Words
pub mod Written
