pub mod Numbers
pub mod SharedRows
pub mod Words
