pub mod Plans
pub mod Parts
pub mod Orders
pub mod Counts
pub mod Beginnings
pub mod Rounds
pub mod Pairs
pub mod Making
