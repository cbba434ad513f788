pub mod AskingHolds
pub mod ExactlyHolds
pub mod EveryWordHolds
pub mod AsPrintedHolds
