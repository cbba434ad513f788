pub mod Stepping
pub mod Answers
pub mod Running
pub mod AsPrinted
