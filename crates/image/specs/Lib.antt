-- What the contracts of `image` cite, and statements about them.
pub mod Refusal
pub mod Conditions
pub mod Picture
pub mod View
pub mod Call
pub mod Same
pub mod Determined
