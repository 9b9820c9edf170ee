-- Stepping stones, which bodies and proofs need: slots, the links between them, and what a walk has left.
pub mod Slots
pub mod View
pub mod Rings
pub mod Pairs
pub mod Roots
pub mod Sound
pub mod Sought
pub mod Left
