pub mod Accepting
pub mod Narrowed
