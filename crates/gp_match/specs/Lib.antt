pub mod Verdict
pub mod Told
pub mod Judge
pub mod inside
pub mod Laws
pub mod Tests
pub mod Stands
