pub mod Pages
pub mod Whole
pub mod AsPrinted
pub mod RowsByTheirParts
