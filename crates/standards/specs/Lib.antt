-- The documents
pub mod PorterDuff
pub mod Compositing
pub mod NonSeparable
-- Which operators of the compositor they define, and where their numbers lie
pub mod Operators
pub mod Range
-- Where the compositor differs: the steps of a formula that it takes otherwise, and the inputs at which that shows
pub mod Lists
pub mod FractionSteps
pub mod BlendSteps
pub mod FractionDifferences
pub mod BlendDifferences
pub mod Rows
