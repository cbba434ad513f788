pub mod Months
pub mod TableRows
pub mod Dates
pub mod Times
pub mod Years
pub mod Laws
pub mod Whole
pub mod AsPrintedHolds
