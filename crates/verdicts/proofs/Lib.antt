pub mod Splitting
pub mod Counting
