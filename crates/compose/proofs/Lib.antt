pub mod Maps
mod Outcomes
pub mod Parts
pub mod Pixels
pub mod Placed
pub mod Windows
