pub mod DigitCount
pub mod DrawnFit
pub mod SharedRows
pub mod UniversalFit
