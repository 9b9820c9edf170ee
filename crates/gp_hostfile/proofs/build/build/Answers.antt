use Rattle.std.proofs.Common.{length, sym, ap, subst, ◌∙◌}
use Rattle.std.specs.List.{AllZip}
use Rattle.std.proofs.lemmas.List.{length-map}
use Rattle.std.proofs.lemmas.Result.{err_from_is_err_and}
use Rattle.gp_hostfile.specs.inside.Stages.{HasEnds, tree_in}
use Rattle.gp_hostfile.proofs.Built.{are_nodes}
use Rattle.gp_hostfile.proofs.Hosts.{nodes_failed, edges_failed, edges_built}
use Rattle.gp_hostfile.proofs.build.build.Goals as goal

pub returns-in_err-build_nodes-clause-made : goal.returns-in_err-build_nodes-clause-made
returns-in_err-build_nodes-clause-made c =
    let p = err_from_is_err_and c.from_residual.result c.from_residual.ensures.1 in
    rw (p.1, p.2) (nodes_failed c.args.names.now.nodes (tree_in c.args.tree) c.in_err-build_nodes.field-0.0 (rw (c.deref.ensures.value, c.new-graph.ensures) at c.in_err-build_nodes.ensures))

pub build_edges-requires-clause-nodes : goal.build_edges-requires-clause-nodes
build_edges-requires-clause-nodes c =
    let d = tree_in c.args.tree in
    are_nodes d.0 c.args.names.now.nodes _ (ap length c.requires.names ∙ length-map d.0 _) (rw (c.deref.ensures.value, c.new-graph.ensures) at c.in_ok-build_nodes.ensures)

pub returns-in_err-build_edges-clause-made : goal.returns-in_err-build_edges-clause-made
returns-in_err-build_edges-clause-made c =
    let p = err_from_is_err_and c.from_residual-in_err-build_edges.result c.from_residual-in_err-build_edges.ensures.1 in
    rw (p.1, p.2) (edges_failed c.args.names.now.nodes (tree_in c.args.tree) _ (rw (c.deref.ensures.value, c.new-graph.ensures) at c.in_ok-build_nodes.ensures) c.in_err-build_edges.field-0.0 (rw c.deref-2.ensures.value at c.in_err-build_edges.ensures))

pub returns-clause-made : goal.returns-clause-made
returns-clause-made c = edges_built c.args.names.now.nodes (tree_in c.args.tree) _ (rw (c.deref.ensures.value, c.new-graph.ensures) at c.in_ok-build_nodes.ensures) _ (rw c.deref-2.ensures.value at c.in_ok-build_edges.ensures)

pub build_edges-requires-clause-ends : goal.build_edges-requires-clause-ends
build_edges-requires-clause-ends c = subst (λ es. AllZip (HasEnds c.args.names.now.nodes) es c.args.names.now.ends.items) (sym c.deref-2.ensures.value) c.requires.ends
