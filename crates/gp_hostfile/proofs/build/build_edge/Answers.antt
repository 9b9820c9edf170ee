use Rattle.std.proofs.Common.{◌∙◌, Some, sym, ap}
use Rattle.gp_hostfile.specs.Host.{atoms_of}
use Rattle.std.proofs.lemmas.Result.{err_from_is_err_and}
use Rattle.gp_hostfile.proofs.Built.{is_node}
use Rattle.gp_hostfile.proofs.Making.{mark_missing, label_missing, edge_made}
use Rattle.gp_hostfile.proofs.build.build_edge.Goals as goal

pub add_edge-requires-clause-source : goal.add_edge-requires-clause-source
add_edge-requires-clause-source c = is_node c.args._nodes.now c.args.graph.now.graph c.args.edge.now.source c.args.ends.now.source c.requires.nodes c.requires.ends.source

pub add_edge-requires-clause-target : goal.add_edge-requires-clause-target
add_edge-requires-clause-target c = is_node c.args._nodes.now c.args.graph.now.graph c.args.edge.now.target c.args.ends.now.target c.requires.nodes c.requires.ends.target

pub returns-in_err-mark-clause-made : goal.returns-in_err-mark-clause-made
returns-in_err-mark-clause-made c =
    let p = err_from_is_err_and c.from_residual.result c.from_residual.ensures.1 in
    rw (p.1, p.2) (mark_missing c.args._nodes.now c.args.edge.now c.args.graph.now.graph c.args.ends.now.source c.requires.ends.source c.args.ends.now.target c.requires.ends.target c.in_err-mark.field-0.0 _ c.in_err-mark.ensures)

pub returns-in_err-label-clause-made : goal.returns-in_err-label-clause-made
returns-in_err-label-clause-made c =
    let p = err_from_is_err_and c.from_residual-in_err-label.result c.from_residual-in_err-label.ensures.1 in
    rw (p.1, p.2) (label_missing c.args._nodes.now c.args.edge.now c.args.graph.now.graph c.args.ends.now.source c.requires.ends.source c.args.ends.now.target c.requires.ends.target c.in_ok-mark.mark c.in_ok-mark.ensures c.in_err-label.field-0.0 (rw c.as_slice.ensures at c.in_err-label.ensures))

pub returns-clause-made : goal.returns-clause-made
returns-clause-made c =
    edge_made c.args._nodes.now c.args.edge.now c.args.graph.now.graph c.args.ends.now.source c.requires.ends.source c.args.ends.now.target c.requires.ends.target c.in_ok-mark.mark c.in_ok-mark.ensures c.in_ok-label.label (ap atoms_of (sym c.as_slice.ensures) ∙ c.in_ok-label.ensures) ∙ ap Some (sym c.in_ok-add_edge.ensures.ok)
