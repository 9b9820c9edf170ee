pub mod Known
pub mod Extension
pub mod Matched
pub mod inside
pub mod Laws
pub mod Unify
pub mod Candidate
pub mod Trail
