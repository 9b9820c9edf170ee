pub mod Grammar
pub mod Host
pub mod GraphText
pub mod FaultLines
pub mod Renumbered
pub mod Laws
pub mod inside
