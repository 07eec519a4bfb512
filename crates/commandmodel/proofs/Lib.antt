-- The laws of the crate: of the numbers printed and read (Digits), of a line (Laws) and of an input in blocks (Blocks).
pub mod Digits
pub mod Laws
pub mod Blocks
