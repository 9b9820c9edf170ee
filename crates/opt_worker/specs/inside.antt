-- What only bodies and proofs need.
pub mod Reports
pub mod Replies
pub mod Jobs
