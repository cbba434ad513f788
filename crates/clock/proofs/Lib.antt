pub mod AsPrintedHolds
pub mod StepLaws
pub mod RunLaws
pub mod KeepLaws
pub mod Whole
