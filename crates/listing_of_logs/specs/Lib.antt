pub mod LogPages
pub mod Whole
pub mod AsPrinted
