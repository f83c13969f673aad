pub mod Bools
pub mod Reading
pub mod Inverse
pub mod Numbers
pub mod Signed
