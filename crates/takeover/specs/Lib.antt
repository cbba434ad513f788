pub mod TakingOver
pub mod Sentences
