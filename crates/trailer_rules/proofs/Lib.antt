pub mod TrailerLaws
pub mod AsPrintedHolds
