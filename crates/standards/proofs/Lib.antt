-- The theorems, one an operator; and that each listed difference is one
pub mod PorterDuff
pub mod Compositing
pub mod Rows
-- No hypothesis excludes an input at which the two sides are equal
pub mod Needed
pub mod BlendsNeeded
-- In general: the fractions, the blend functions, what a convention stores
pub mod Fractions
pub mod FractionSteps
pub mod Blends
pub mod BlendsFinite
pub mod BlendSteps
pub mod Conventions
pub mod Stored
-- Where the listed differences vanish
pub mod Domain
pub mod Transparent
pub mod FractionEdges
pub mod FractionPixel
pub mod BlendEdges
pub mod AtEdges
pub mod Opaque
pub mod NoClamp
pub mod Absent
pub mod AbsentPixel
-- Numbers from 0 to 1
pub mod InRange
pub mod BlendRange
pub mod Mixture
pub mod UnitSteps
pub mod MixtureRange
pub mod Complement
pub mod Quotient
pub mod Screen
pub mod Exclusion
pub mod HardLight
pub mod SoftLight
-- Small things
pub mod LeftOut
pub mod Constants
pub mod Pixels
