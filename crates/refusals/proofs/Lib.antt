pub mod Laws
pub mod NumberLaws
pub mod Tables
pub mod NumbersAsPrintedHold
