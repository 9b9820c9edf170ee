-- What only bodies and proofs need.
pub mod Laws
pub mod Traps
