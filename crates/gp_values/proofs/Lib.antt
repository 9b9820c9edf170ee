pub mod Graphs
pub mod Edits
pub mod Order
pub mod Labels
pub mod Keys
pub mod Copies
