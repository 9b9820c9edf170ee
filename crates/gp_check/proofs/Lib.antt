pub mod Placing
pub mod Pushes
pub mod Wholes
