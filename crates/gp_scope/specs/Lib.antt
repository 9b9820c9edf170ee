pub mod Outline
pub mod Names
pub mod Resolved
pub mod Fault
pub mod Bodies
pub mod inside
pub mod Surveys
