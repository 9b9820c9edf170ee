-- Stepping stones that bodies and proofs alone need.
pub mod Ends
pub mod Parts
pub mod Sides
