use Rattle.std.proofs.Common.{◌∙◌}
use Rattle.gp_clauses.proofs.Knowns.{node_there}
use Rattle.gp_clauses.proofs.known.has_node.Goals as goal

pub returns : goal.returns
returns c = c.is_some.ensures ∙ node_there c.node_named.result _ c.args.name.now (rw c.as_slice.ensures at c.node_named.ensures)
