pub mod Refusals
pub mod Numbers
pub mod Tables
pub mod NumbersAsPrinted
