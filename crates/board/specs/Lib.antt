pub mod Plan
pub mod Sign
