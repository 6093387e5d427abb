-- The laws of `resize`.
pub mod Sides
pub mod Halvings
pub mod Means
pub mod Steps
pub mod Refusals
pub mod Conditions
pub mod Determined
pub mod Same
pub mod Together
pub mod WrongPrograms
pub mod Examples
