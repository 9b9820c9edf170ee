pub mod Draws
pub mod Puts
