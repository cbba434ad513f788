pub mod AsPrintedHolds
pub mod RowLaws
pub mod PageLaws
pub mod WholeHolds
