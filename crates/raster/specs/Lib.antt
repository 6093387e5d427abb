-- What the contracts of `raster` cite.
pub mod Before
pub mod Border
pub mod Direction
pub mod Lines
