pub mod AsPrintedHolds
pub mod SixtyLaws
pub mod RuleLaws
pub mod NextLaws
pub mod UtcLaws
pub mod FollowingLaws
pub mod LastSixtyHolds
