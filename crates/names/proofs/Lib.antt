pub mod EndToEnd
pub mod Eights
pub mod Reading
pub mod Packing
pub mod Finding
pub mod Known
pub mod Ascii
pub mod Distinct
