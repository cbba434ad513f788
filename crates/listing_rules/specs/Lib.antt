pub mod Decimals
pub mod Listing
pub mod LogRows
pub mod AsPrinted
pub mod LogAsPrinted
