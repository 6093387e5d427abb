-- The laws of `sharpen`.
pub mod Binomial
pub mod Places
pub mod Rows
pub mod Call
pub mod Conditions
pub mod Determined
pub mod Same
pub mod Examples
