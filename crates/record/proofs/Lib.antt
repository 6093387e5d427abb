-- Laws of `record`.
pub mod LittleEndian
pub mod Doubles
pub mod Legal
pub mod Answer
pub mod Conditions
pub mod Determined
pub mod Coding
pub mod RoundTrip
pub mod Results
pub mod Examples
