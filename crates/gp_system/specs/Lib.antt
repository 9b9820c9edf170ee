pub mod Ended
pub mod Gp
pub mod Laws
pub mod inside
