-- What the contracts of `summary` cite, and statements about them.
pub mod Sheet
pub mod File
pub mod Conditions
pub mod Tally
