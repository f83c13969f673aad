pub mod Cells
pub mod Forms
pub mod Card
pub mod Answers
pub mod Steps
