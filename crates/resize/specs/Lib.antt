-- What the contracts of `resize` cite, and statements about them.
pub mod Halving
pub mod Rows
pub mod Call
pub mod Conditions
