pub mod Digits
pub mod Filling
