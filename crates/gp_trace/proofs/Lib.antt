pub mod Bytes
pub mod Items
pub mod Puts
pub mod Writes
pub mod WordFacts
pub mod LineFacts
pub mod Existing
pub mod Told
