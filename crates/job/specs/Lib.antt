-- What the contracts of the whole job cite, the demands on it, and statements about them.
pub mod Exact
pub mod Job
pub mod Parts
pub mod Conditions
pub mod Floor
pub mod Before
pub mod ExactJob
pub mod Demands
