pub mod AsPrintedHolds
pub mod RuleLaws
pub mod Carried
pub mod BackAndForth
pub mod ReadLaws
pub mod WriteLaws
pub mod Spelled
