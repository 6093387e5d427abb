-- What the contracts of `smear_c` cite.
pub mod Direction
pub mod Restoration
pub mod Sharpening
pub mod Resizing
pub mod Length
pub mod WholeJob
pub mod Program
pub mod Sheet
pub mod Pictures
