use Rattle.std.proofs.Common.{◌≡◌, ◌≤◌, ◌+◌, List, length}
use Rattle.gp_tokens.specs.declared.token.Token.{Token}
use Rattle.gp_tokens.specs.Lexed.{lexed, with_front}
use Rattle.gp_tokens.proofs.cutter.count_tokens.Given as goal

abbrev pub invariant-each : goal.invariant-each
invariant-each l = (before : List Token) × (length before ≡ l.count) × (with_front before (lexed 0 l.at l.rest) ≡ lexed 0 0 l.text) × (l.at + length l.rest ≡ length l.text) × (l.count ≤ l.at)

abbrev pub decreases-each : goal.decreases-each
decreases-each l = length l.rest
