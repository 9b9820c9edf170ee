-- What only bodies and proofs need.
pub mod Viewed
pub mod Planned
pub mod Laws
pub mod Noted
pub mod Pursued
pub mod Finishing
pub mod AfterTurn
