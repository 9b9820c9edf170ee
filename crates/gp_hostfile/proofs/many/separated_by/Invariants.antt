use Rattle.std.proofs.Common.{◌-◌}
use Rattle.gp_tokens.specs.Reading.{separated}
use Rattle.gp_tokens.proofs.Loops.{next_of}
use Rattle.gp_tokens.specs.Cursor.{IsReading}
use Rattle.gp_tokens.proofs.Loops.{GoesOn}
use Rattle.gp_hostfile.proofs.many.separated_by.Given as goal

abbrev pub invariant-each : goal.invariant-each
invariant-each g l = (one : _) → IsReading (goal.F-post g l.read) l.inside one → GoesOn l.sign (next_of l.sign one) (separated l.sign one l.fn.tokens) l.found.items (l.end - l.counter) l.tokens
