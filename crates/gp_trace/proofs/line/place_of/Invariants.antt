use Rattle.std.proofs.Common.{◌≡◌, ℕ, ◌<◌}
use Rattle.std.specs.Prelude.{slice_get, Some}
use Rattle.gp_trace.proofs.WordFacts.{texts}
use Rattle.gp_trace.proofs.line.place_of.Given as goal

-- it did not stand before
abbrev pub invariant-loop-i : goal.invariant-loop-i
invariant-loop-i l = (k : ℕ) → k < l.i → slice_get (texts l.words) k ≡ Some l.word → ⊥
