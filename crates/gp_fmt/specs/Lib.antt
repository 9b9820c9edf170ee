pub mod Pieces
pub mod Spaces
pub mod Expressions
pub mod Commands
pub mod Rules
pub mod Canonical
pub mod Laws
pub mod inside
