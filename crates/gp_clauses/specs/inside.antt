pub mod Known
pub mod Labels
pub mod Marks
pub mod Names
pub mod Tables
