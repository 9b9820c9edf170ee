use Rattle.std.proofs.Common.{◌∙◌, sym}
use Rattle.gp_syntax.specs.Fault.{unknown_at_node}
use Rattle.gp_syntax.specs.Tree.{node_of, declaration_of}
use Rattle.gp_syntax.proofs.Told.{told_map}
use Rattle.gp_clauses.proofs.Knowns.{told_or}
use Rattle.gp_clauses.proofs.names.unknown_in_side.Goals as goal

pub returns : goal.returns
returns c =
    told_or _ _ _ _ _ c.or.ensures (rw c.as_slice.ensures at c.unknown_at_nodes.ensures ∙ sym (told_map (unknown_at_node (declaration_of c.args.rule.now)) node_of c.args.side.now.nodes)) c.unknown_at_edges.ensures
