pub mod Widen
pub mod FlatWords
pub mod Bilinear
pub mod Shapes
pub mod Steps
