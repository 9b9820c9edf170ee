use Rattle.std.proofs.Common.{◌≡◌, IfSome, length}
use Rattle.opt_tables.proofs.tests.cores.told_by.Given as goal

abbrev pub invariant-loop-event : goal.invariant-loop-event
invariant-loop-event g l = record {
  can_next : (goal.iterator-loop-event g).can_next l.event-iterator;
  is_finite : (goal.iterator-loop-event g).is_finite l.event-iterator;
  system : l.s ≡ l.core.system;
  base : l.base ≡ l.core.base;
  at : IfSome l.count (λ n. (n ≡ length l.core.entries) × (l.at ≡ l.core.state));
}
