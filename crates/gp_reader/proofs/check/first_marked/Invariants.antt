use Rattle.std.proofs.Common.{ℕ, ◌<◌}
use Rattle.gp_reader.specs.inside.Procedures.{IsMarked}
use Rattle.gp_reader.proofs.check.first_marked.Given as goal

abbrev pub invariant-loop-k : goal.invariant-loop-k
invariant-loop-k l = (j : ℕ) → j < l.k → IsMarked l.marks j → ⊥
