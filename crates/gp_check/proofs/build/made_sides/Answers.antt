use Rattle.gp_check.proofs.Wholes.{plain_labels}
use Rattle.gp_check.proofs.build.made_sides.Goals as goal

pub left_nodes-requires : goal.left_nodes-requires
left_nodes-requires c = (plain_labels c.args.rule.now c.requires).0

pub left_edges-requires : goal.left_edges-requires
left_edges-requires c = (plain_labels c.args.rule.now c.requires).1

pub returns : goal.returns
returns c = record { left_nodes = c.in_ok-left_nodes.ensures; left_edges = c.in_ok-left_edges.ensures; right_nodes = c.in_ok-right_nodes.ensures; right_edges = c.in_ok-right_edges.ensures }
