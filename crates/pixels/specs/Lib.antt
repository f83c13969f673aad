pub mod Channel
pub mod Pixel
