pub mod AsPrintedHolds
pub mod ReadLaws
pub mod ExactlyHolds
