pub mod Signs
pub mod Ranges
pub mod Expressions
pub mod Conditions
pub mod Laws
pub mod inside
