mod Sums
mod Tickets
mod Prefixes
mod Owns
mod Shows
pub mod Draws
pub mod Watches
pub mod Passes
pub mod Splits
pub mod Joins
pub mod Led
pub mod Rests
pub mod Follows
mod Taking
mod Turned
