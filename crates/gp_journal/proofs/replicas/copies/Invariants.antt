use Rattle.std.proofs.Common.{◌≡◌, ◌≤◌, ◌+◌, All, IfSome, vec_len, vec_capacity}
use Rattle.gp_journal.proofs.replicas.copies.Given as goal

abbrev pub invariant-loop : goal.invariant-loop
invariant-loop g l = record { len : vec_len l.places ≡ l.counter; room : l.count ≤ vec_capacity l.places }

abbrev pub invariant-loop-place : goal.invariant-loop-place
invariant-loop-place g l = record {
  places : All (λ place. IfSome place (λ t. t ≡ l.trail)) l.places.items;
  all : All (λ t. t ≡ l.trail) l.trails.items;
  len : vec_len l.places + vec_len l.trails ≡ l.workers;
  room : l.workers ≤ vec_capacity l.trails;
}

abbrev pub decreases-loop-place : goal.decreases-loop-place
decreases-loop-place g l = vec_len l.places
