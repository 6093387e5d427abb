-- Laws of `smear_run`.
pub mod Conditions
pub mod Determined
pub mod Enough
pub mod Fronts
pub mod Stages
pub mod Printed
pub mod Results
pub mod Straight
pub mod Most
pub mod Surplus
pub mod Examples
