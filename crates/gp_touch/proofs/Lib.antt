pub mod Around
pub mod Others
pub mod Long
pub mod Numbers
pub mod Near
pub mod Ends
pub mod Rows
