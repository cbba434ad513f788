pub mod InNumbersHolds
pub mod LayingLaws
pub mod TailLaws
pub mod CopyLaws
pub mod OneBehindAnotherLaws
pub mod EndingLaws
