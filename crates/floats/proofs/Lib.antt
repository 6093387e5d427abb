-- The laws that belong to no one function.
pub mod Order
pub mod Rounded
pub mod AboveZero
pub mod Values
pub mod Factor
pub mod Odd
pub mod Overflow
pub mod Examples
pub mod Finite
