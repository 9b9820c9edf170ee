use Rattle.std.proofs.Common.{◌≡◌, ◌<◌, ◌≤◌, ℕ, length, get_or}
use Rattle.gp_journal.specs.Trail.{Trail}
use Rattle.gp_journal.proofs.replicated.tell_hints.Given as goal

abbrev pub invariant-loop-replica : goal.invariant-loop-replica
invariant-loop-replica l = record {
  there : (k : ℕ) (d : Trail) → l.replica-index ≤ k → k < length l.replicas → get_or l.replicas k d ≡ l.trail;
  all : (k : ℕ) (d : Trail) → k < l.replica-index → get_or l.replicas k d ≡ l.trail;
}
