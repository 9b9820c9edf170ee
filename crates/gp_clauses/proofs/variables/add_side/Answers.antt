use Rattle.std.proofs.Common.{◌∙◌, sym}
use Rattle.gp_clauses.proofs.Tables.{variables_side}
use Rattle.gp_clauses.proofs.Walks.{fold_ended}
use Rattle.gp_clauses.proofs.variables.add_side.Goals as goal

pub returns : goal.returns
returns c = rw (variables_side c.args.table.now c.args.side.now) (sym (fold_ended _ c.as_slice-edge-items.result.now c.edges.edge-index c.edges.table c.edges-test.false) ∙ c.edges.invariant)
