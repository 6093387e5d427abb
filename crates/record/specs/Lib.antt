-- What the contracts of `record` cite, and statements about them.
pub mod Bytes
pub mod Fields
pub mod Record
pub mod Conditions
