pub mod Readers
pub mod Cuts
pub mod Pieces
pub mod ReaderSentences
pub mod SkippingReaders
pub mod LongerReaders
