pub mod Reason
pub mod Checks
