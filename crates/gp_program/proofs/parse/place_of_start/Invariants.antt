use Rattle.std.proofs.Common.{◌≡◌, ◌+◌, length}
use Rattle.gp_program.specs.Program.{place_of_start}
use Rattle.gp_program.proofs.parse.place_of_start.Given as goal

abbrev pub invariant-each : goal.invariant-each
invariant-each l = (l.place + place_of_start l.start l.rest ≡ place_of_start l.start l.fn.tokens) × (l.place + length l.rest ≡ length l.fn.tokens)

abbrev pub decreases-each : goal.decreases-each
decreases-each l = length l.rest
