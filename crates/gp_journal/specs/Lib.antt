pub mod Trail
pub mod Leads
pub mod Journal
pub mod inside
pub mod Laws
