-- What the contracts of `swings` cite.
pub mod Line
pub mod Rise
pub mod Runs
pub mod RustRise
pub mod Samples
pub mod Scan
pub mod Swings
