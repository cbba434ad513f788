pub mod Layouts
pub mod Coding
pub mod AsPrinted
