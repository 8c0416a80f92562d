pub mod Spaced
pub mod Checks
