pub mod Held
pub mod Walks
pub mod inside
pub mod Chains
