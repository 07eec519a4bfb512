pub mod Decimal
pub mod Command
pub mod Printed
pub mod Lines
pub mod Blocks
pub mod Laws
