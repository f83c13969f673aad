pub mod Luma
pub mod Narrow
