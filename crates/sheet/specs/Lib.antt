pub mod Survey
pub mod Writes
pub mod Locating
pub mod Estimating
pub mod Granting
pub mod Sharing
pub mod Carrying
