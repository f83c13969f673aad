-- The float steps, in the order of document 01's section "Float steps".
pub mod Notation
pub mod Literals
pub mod Order
pub mod Remainder
pub mod Root
pub mod Sign
pub mod Whole
pub mod Words
pub mod Axis
