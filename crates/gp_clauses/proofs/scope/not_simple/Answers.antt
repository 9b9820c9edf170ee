use Rattle.std.proofs.Common.{ap, not}
use Rattle.gp_clauses.proofs.scope.not_simple.Goals as goal

pub returns : goal.returns
returns c = ap not (rw c.requires.declared at c.labels_pass.ensures)
