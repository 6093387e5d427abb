-- What the contracts of `floats` cite.
pub mod Factor
pub mod Odd
