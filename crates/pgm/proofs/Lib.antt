-- The laws of `pgm`.
pub mod Bytes
pub mod Reading
pub mod Fields
pub mod Headers
pub mod Printed
pub mod Parsed
pub mod Accepted
pub mod Digits
pub mod Appending
pub mod Writing
pub mod RoundTrip
pub mod Conditions
pub mod Determined
pub mod Same
pub mod Examples
