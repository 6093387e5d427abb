-- What the contracts of `pgm` cite, and statements about them.
pub mod Form
pub mod Read
pub mod Write
pub mod Conditions
pub mod Held
