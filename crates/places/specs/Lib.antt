pub mod Bounds
pub mod Gravities
pub mod Placement
pub mod Indices
