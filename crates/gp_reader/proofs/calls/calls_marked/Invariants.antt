use Rattle.std.proofs.Common.{ℕ, ◌<◌, get_or}
use Rattle.gp_reader.specs.inside.Procedures.{IsMarked}
use Rattle.gp_reader.proofs.calls.calls_marked.Given as goal

abbrev pub invariant-loop-callee : goal.invariant-loop-callee
invariant-loop-callee l = (i : ℕ) → i < l.callee-index → IsMarked l.marks (get_or l.called i 0) → ⊥
