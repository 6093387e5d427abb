-- The laws of `image`.
pub mod Call
pub mod Told
pub mod Chain
pub mod Conditions
pub mod Determined
pub mod Accepted
pub mod Same
pub mod Pair
pub mod Picture
pub mod Rows
pub mod Tight
pub mod Front
pub mod Appending
pub mod Examples
