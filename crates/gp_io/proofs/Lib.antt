pub mod Found
pub mod Pieces
pub mod Streams
