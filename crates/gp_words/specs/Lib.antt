pub mod inside
pub mod CommandLine
pub mod Told
