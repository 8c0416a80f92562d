pub mod Rows
pub mod UniversalFit
pub mod Universal
pub mod PolynomialFit
pub mod Polynomial
pub mod PolynomialFitLemmas
pub mod Ranges
