pub mod Lists
pub mod Pass
pub mod Turn
pub mod inside
