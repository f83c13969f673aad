pub mod Above
pub mod Accepting
pub mod Asked
pub mod Colours
pub mod Counted
pub mod Needed
pub mod Painted
