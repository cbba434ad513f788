pub mod Ascii
pub mod Control
