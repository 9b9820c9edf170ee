use Rattle.std.proofs.Common.{◌≡◌, drop}
use Rattle.gp_tokens.proofs.line.line_of_place.Given as goal

abbrev pub invariant-skipped : goal.invariant-skipped
invariant-skipped l = l.left ≡ drop l.counter l.fn.tokens
