pub mod Judges
pub mod Counted
pub mod Loops
pub mod Verdicts
pub mod Told
