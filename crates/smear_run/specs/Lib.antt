-- What the contracts of `smear_run` cite, and statements about them.
pub mod Stage
pub mod Output
pub mod Conditions
pub mod Parts
