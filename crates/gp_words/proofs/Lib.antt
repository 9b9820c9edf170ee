pub mod Commands
pub mod Numerals
pub mod Plain
pub mod Levels
