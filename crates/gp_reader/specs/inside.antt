pub mod Stages
pub mod Procedures
pub mod Visits
pub mod Judged
pub mod Named
pub mod Taken
