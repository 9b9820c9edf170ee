pub mod Spelled
pub mod Sizes
pub mod Links
pub mod Puts
