pub mod Arguments
pub mod Compose
pub mod Plans
pub mod Ready
pub mod Single
pub mod Unwindowed
