pub mod Event
pub mod Judge
pub mod Run
pub mod Laws
pub mod Printed
