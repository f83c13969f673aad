pub mod Accepted
pub mod Carried
pub mod Checks
pub mod Decoded
pub mod Numbers
pub mod Parts
pub mod Rows
pub mod Sides
