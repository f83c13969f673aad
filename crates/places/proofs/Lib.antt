pub mod Anchors
pub mod Signed
pub mod Indices
