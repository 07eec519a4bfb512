pub mod Returned
pub mod Laws
