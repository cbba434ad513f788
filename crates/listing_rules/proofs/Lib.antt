pub mod DecimalLaws
pub mod RowLaws
pub mod LogRowLaws
pub mod AsPrintedHolds
