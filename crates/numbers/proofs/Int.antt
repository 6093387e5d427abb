-- Laws of the integers ℤ, by subject: ring equations, linear facts, order, sizes, division, machine integers.
pub mod Ring
pub mod Linear
pub mod Order
pub mod Size
pub mod Divide
pub mod Machine
