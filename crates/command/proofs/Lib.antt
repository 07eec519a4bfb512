-- What the proofs of several functions use. The laws of numbers, lines and blocks are those of commandmodel.
pub mod Ended
pub mod Kept
pub mod Letters
pub mod Numbers
pub mod OneField
pub mod Pieces
pub mod Writing
