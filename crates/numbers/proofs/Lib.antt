-- The laws that the other crates' proofs cite, by subject.
pub mod Each
pub mod Int
pub mod List
pub mod Nat
pub mod Places
pub mod Scalar
pub mod Sum
pub mod Test
pub mod Words
pub mod Written
