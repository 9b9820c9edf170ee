pub mod Unifies
pub mod Candidates
pub mod Trails
pub mod Chains
pub mod Answers
pub mod Matches
