-- What only bodies and proofs need: the rule of the table, and what each atomic step does to a view.
pub mod Totals
pub mod Rule
pub mod Plays
pub mod Cores
pub mod Follow
pub mod Seats
