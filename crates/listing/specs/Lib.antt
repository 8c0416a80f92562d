pub mod Text
pub mod Typed
pub mod Sentences
pub mod Description
