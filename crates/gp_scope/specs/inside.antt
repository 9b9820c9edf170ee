pub mod Levels
pub mod Doubles
pub mod Commands
pub mod Declares
pub mod Numbering
