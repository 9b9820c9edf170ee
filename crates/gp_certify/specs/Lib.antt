pub mod Certified
pub mod Places
pub mod Parts
pub mod Laws
pub mod Code
pub mod inside
