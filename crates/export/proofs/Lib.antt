-- The law of the numbers returned.
pub mod Laws
