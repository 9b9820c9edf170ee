use Rattle.std.proofs.Common.{List, ◌<◌, length, sym, subst, arith}
use Rattle.std.specs.Prelude.{slice_index_or}
use Rattle.std.proofs.lemmas.Result.{err_from_is_err_and}
use Rattle.gp_hostfile.specs.declared.check.Ends.{Ends}
use Rattle.gp_hostfile.specs.inside.Stages.{HasEnds}
use Rattle.gp_hostfile.proofs.Making.{edges_go_on, edges_stop, edges_end, zip_at, zip_long}
use Rattle.gp_hostfile.proofs.build.build_edges.Goals as goal

pub bounds-ends-i : goal.bounds-ends-i
bounds-ends-i c =
    let k = zip_long (HasEnds c.args.names.now.nodes) c.args.edges.now c.args.names.now.ends.items c.requires.ends in
    subst (λ es. c.edges.i < length es) (sym c.as_slice-ends.ensures.value) (omega (arith, c.edges-test.true))

pub build_edge-requires-clause-nodes : goal.build_edge-requires-clause-nodes
build_edge-requires-clause-nodes c = c.edges.invariant.1

pub build_edge-requires-clause-ends : goal.build_edge-requires-clause-ends
build_edge-requires-clause-ends c =
    subst (λ (es : List Ends). HasEnds c.args.names.now.nodes c.index-edges-i.result (slice_index_or es c.edges.i (record { source = 0; target = 0 }))) (sym c.as_slice-ends.ensures.value)
    (zip_at (HasEnds c.args.names.now.nodes) c.args.edges.now c.args.names.now.ends.items c.edges.i c.index-edges-i.result (record { source = 0; target = 0 }) c.requires.ends c.edges-test.true c.index-edges-i.is)

pub returns-in_err-build_edge : goal.returns-in_err-build_edge
returns-in_err-build_edge c =
    let p = err_from_is_err_and c.from_residual.result c.from_residual.ensures.1 in
    rw (p.1, p.2) (edges_stop c.args.names.now.nodes c.args.edges.now c.edges.i c.index-edges-i.result c.edges-test.true c.index-edges-i.is _ _ c.edges.invariant.0 c.in_err-build_edge.field-0.0 c.in_err-build_edge.ensures.made)

pub edges-preserved : goal.edges-preserved
edges-preserved c =
    (edges_go_on c.args.names.now.nodes c.args.edges.now c.edges.i c.index-edges-i.result c.edges-test.true c.index-edges-i.is _ _ c.edges.invariant.0 _ c.in_ok-build_edge.ensures.made, c.in_ok-build_edge.ensures.nodes)

pub returns : goal.returns
returns c = edges_end c.args.names.now.nodes c.args.edges.now c.edges.i _ _ c.edges-test.false c.edges.invariant.0
