pub mod Answer
pub mod inside
pub mod Denial
