pub mod Blends
pub mod Hsl
