pub mod Depth
pub mod Rules
pub mod Commands
pub mod Programs
pub mod Program
pub mod Laws
pub mod inside
