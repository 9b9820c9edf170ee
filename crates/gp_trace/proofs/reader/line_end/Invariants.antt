use Rattle.std.proofs.Common.{◌≡◌, ℕ, ◌<◌, length, get_or, false}
use Rattle.std.specs.Prelude.{◌==◌}
use Rattle.gp_trace.proofs.reader.line_end.Given as goal

-- no line feed stands before
abbrev pub invariant-loop-i : goal.invariant-loop-i
invariant-loop-i l = (k d : ℕ) → k < l.i → k < length l.text → (get_or l.text k d == 10) ≡ false
