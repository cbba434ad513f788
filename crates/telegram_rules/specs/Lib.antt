pub mod Reading
pub mod Writing
pub mod AsPrinted
pub mod OrderAsPrinted
