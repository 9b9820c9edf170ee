pub mod Marks
pub mod Sessions
pub mod Goes
pub mod Runs
pub mod Systems
pub mod Batches
pub mod Pursuits
pub mod Endings
pub mod Crews
mod Pursues
pub mod Crossing
