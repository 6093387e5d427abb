-- The laws of `smear_c`, by subject.
pub mod Conditions
pub mod Determined
pub mod Outs
pub mod Same
