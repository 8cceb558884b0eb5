-- The words of the laws of rounding.
pub mod Order
