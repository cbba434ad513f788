pub mod Numbers
pub mod Characters
pub mod Scanning
pub mod Rendering
pub mod Rows
pub mod RoundTrip
pub mod Whole
