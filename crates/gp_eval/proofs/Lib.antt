pub mod Chains
pub mod Between
pub mod Conditions
pub mod Denials
