use Rattle.std.proofs.Common.{◌≡◌, ◌+◌, length}
use Rattle.gp_tokens.specs.Lexed.{lexed}
use Rattle.gp_tokens.proofs.cutter.first_of.Given as goal

abbrev pub invariant-each : goal.invariant-each
invariant-each l = (lexed 0 l.at l.rest ≡ lexed 0 l.start l.text) × (l.at + length l.rest ≡ l.start + length l.text)

abbrev pub decreases-each : goal.decreases-each
decreases-each l = length l.rest
