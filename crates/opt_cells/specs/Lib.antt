pub mod Row
pub mod Cells
pub mod Traps
pub mod inside
