pub mod Requests
pub mod AsPrinted
pub mod Exactly
