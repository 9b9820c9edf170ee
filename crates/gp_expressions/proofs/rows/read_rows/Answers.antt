use Rattle.std.proofs.Common.{rules}
use Rattle.gp_expressions.proofs.rows.read_rows.Goals as goal

pub returns : goal.returns
returns g c one make all is mk same = c.separated_by.ensures all (record { reads = λ old new r p. rw (same old.now) (search rules) })
