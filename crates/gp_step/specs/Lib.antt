pub mod After
pub mod inside
pub mod Laws
pub mod Undo
pub mod Edits
pub mod Halves
