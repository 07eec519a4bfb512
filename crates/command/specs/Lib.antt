pub mod Read
pub mod Written
pub mod Taking
pub mod Fields
