pub mod Row
pub mod Coding
pub mod Rule
pub mod Reading
pub mod Writing
pub mod RoundTrip
pub mod AsPrinted
