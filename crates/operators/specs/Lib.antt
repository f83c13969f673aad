pub mod Operators
pub mod Numbers
pub mod Listed
