-- What the contracts of `deblur` cite, and statements about them.
pub mod Picture
pub mod Refusal
pub mod Conditions
pub mod Settings
pub mod Lines
pub mod Scatter
pub mod Calls
pub mod Before
