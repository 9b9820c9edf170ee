pub mod Examples
pub mod Puts
pub mod Drawing
pub mod NodeLines
pub mod Grids
pub mod Whole
