pub mod Choice
pub mod Nan
pub mod Number
pub mod Patterns
pub mod WholeRoot
pub mod NearestRoot
pub mod AxisInside
pub mod ByMantissas
mod Finite
mod OwnRemainder
mod Radicand
mod RootEnds
mod Absolute
mod WholePart
