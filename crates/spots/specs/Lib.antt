pub mod Answers
pub mod Spots
pub mod Steps
