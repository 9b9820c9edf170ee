pub mod Grown
pub mod Placed
pub mod Sides
pub mod Stages
