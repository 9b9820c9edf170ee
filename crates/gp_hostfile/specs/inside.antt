pub mod Stages
pub mod Lines
pub mod Held
pub mod Edges
pub mod Passing
pub mod Puts
pub mod More
