-- The laws of `line`, by subject.
pub mod IterationLaws
pub mod LineLaws
pub mod LineWindow
pub mod NearIteration
pub mod NearLine
pub mod NearCut
pub mod BorderByte
pub mod BorderShape
pub mod Wrap
pub mod Examples
pub mod KernelFirst
pub mod KernelMean
pub mod KernelIteration
pub mod KernelStep
pub mod KernelSum
