-- What the proofs of several functions use, and the laws for whoever stands on this crate (Laws).
mod Rounding
mod Sums
mod Enclosure
mod SampleValue
mod ChanceLaw
mod Quotient
mod Reciprocals
mod States
mod TwoProducts
mod InRow
mod Decisions
mod InPlace
mod Induction
mod Replies
mod Draws
mod LotLaw
mod Certain
mod LotReplies
mod StopUnits
mod UnitsLaw
mod OneClass
mod UnitsReplies
pub mod Laws
