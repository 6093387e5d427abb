-- What the contracts of `blur` cite, and statements about them.
pub mod Length
pub mod Conditions
pub mod Median
pub mod Select
