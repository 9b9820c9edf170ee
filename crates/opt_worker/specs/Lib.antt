pub mod Replica
pub mod Entries
pub mod Events
pub mod inside
