pub mod TakingOverLaws
pub mod BoundLaws
pub mod SentencesHold
pub mod Whole
