pub mod Plan
pub mod Order
pub mod Laws
pub mod Places
pub mod Round
pub mod Rules
