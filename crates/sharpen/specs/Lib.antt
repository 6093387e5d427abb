-- What the contracts of `sharpen` cite, and statements about them.
pub mod Binomial
pub mod Passes
pub mod Call
pub mod Conditions
