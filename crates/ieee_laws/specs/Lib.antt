pub mod Same
pub mod Size
