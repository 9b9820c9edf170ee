use Rattle.std.proofs.Common.{◌≡◌, ◌<◌, ◌≤◌, ℕ, length, get_or}
use Rattle.gp_journal.specs.Trail.{Trail}
use Rattle.gp_system.specs.inside.Pursued.{IsBehind}
use Rattle.gp_system.proofs.pursuit.level.Given as goal

abbrev pub invariant-loop-replica : goal.invariant-loop-replica
invariant-loop-replica l = record {
  behind : (k : ℕ) (d : Trail) → l.replica-index ≤ k → k < length l.replicas → IsBehind l.system l.entries l.trail (get_or l.replicas k d);
  all : (k : ℕ) (d : Trail) → k < l.replica-index → get_or l.replicas k d ≡ l.trail;
}
