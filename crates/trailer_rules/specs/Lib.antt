pub mod Trailer
pub mod AsPrinted
