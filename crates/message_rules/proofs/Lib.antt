pub mod StampLaws
pub mod PlainLaws
pub mod NumberLaws
pub mod MessageLaws
