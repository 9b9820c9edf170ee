pub mod Outside
pub mod Stored
pub mod Streams
