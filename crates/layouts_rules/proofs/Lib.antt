pub mod Bits
pub mod RowLaws
pub mod CodingLaws
pub mod Carried
pub mod AsPrintedHolds
