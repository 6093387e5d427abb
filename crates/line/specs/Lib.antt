-- What the contracts of `line` cite, and demand 3's exact run and distances.
pub mod Iteration
pub mod Line
pub mod Exact
pub mod ExactLine
pub mod Near
pub mod Kernel
