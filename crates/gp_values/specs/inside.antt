-- Stepping stones, which bodies and proofs need.
pub mod TextLaws
pub mod CompareLaws
pub mod Held
