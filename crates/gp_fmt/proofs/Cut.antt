pub mod Behind
pub mod Standing
pub mod Texts
pub mod Whole
