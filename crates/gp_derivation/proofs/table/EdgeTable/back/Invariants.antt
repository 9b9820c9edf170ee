use Rattle.std.proofs.Common.{◌≡◌, ◌≤◌, ◌-◌, length}
use Rattle.gp_derivation.specs.inside.Table.{back_by}
use Rattle.gp_derivation.proofs.table.EdgeTable.back.Given as goal

abbrev pub invariant-loop : goal.invariant-loop
invariant-loop l = record { left : l.k - l.counter ≤ length l.self.before; same : back_by (l.k - l.counter) l.self ≡ back_by l.k l.initial.self }
