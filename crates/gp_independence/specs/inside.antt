pub mod Shared
pub mod Size
pub mod Tests
pub mod Gathered
pub mod Visiting
