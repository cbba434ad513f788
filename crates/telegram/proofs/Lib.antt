pub mod SeveralLaws
pub mod Whole
