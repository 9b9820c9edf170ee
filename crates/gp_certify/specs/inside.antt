-- What only bodies and proofs need.
pub mod Fits
pub mod Table
pub mod Grows
pub mod Memory
pub mod Ways
pub mod Found
pub mod Kept
pub mod Along
pub mod Replay
pub mod View
pub mod Whole
