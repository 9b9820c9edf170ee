pub mod Touch
pub mod Ends
pub mod Rows
