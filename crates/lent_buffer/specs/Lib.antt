pub mod Endings
pub mod Laying
pub mod OneBehindAnother
pub mod InNumbers
