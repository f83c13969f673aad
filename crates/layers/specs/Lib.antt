pub mod Cells
pub mod Faults
pub mod GoodLayers
pub mod Inputs
pub mod Layers
pub mod Limits
pub mod Windows
