use Rattle.std.proofs.Common.{◌∙◌, sym}
use Rattle.gp_clauses.proofs.Knowns.{told_or}
use Rattle.gp_clauses.proofs.Scopes.{unknown_labels}
use Rattle.gp_clauses.proofs.scope.unknown_in_labels.Goals as goal

pub returns : goal.returns
returns c =
    told_or _ _ _ _ _ c.or.ensures (rw c.as_slice.ensures at c.unknown_at_nodes.ensures) (rw c.as_slice-2.ensures at c.unknown_at_edges.ensures)
    ∙ sym (unknown_labels c.args.table.now c.args.side.now)
