pub mod Words
pub mod Asking
pub mod Exactly
pub mod EveryWord
pub mod AsPrinted
