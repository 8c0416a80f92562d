pub mod NoAnswer
pub mod Arguments
pub mod Command
