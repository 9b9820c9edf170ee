mod Cases
pub mod Held
