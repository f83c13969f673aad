pub mod Signed
pub mod Tables
pub mod Variants
pub mod Keys
