use Rattle.std.proofs.Common.{refl, subst}
use Rattle.std.specs.List.{AllZip}
use Rattle.std.proofs.lemmas.Result.{err_from_is_err_and}
use Rattle.gp_memory.proofs.Basics.{take_long}
use Rattle.gp_hostfile.specs.inside.Stages.{HasEnds, ends_fault}
use Rattle.gp_hostfile.proofs.Faults.{first_refused, then_refused}
use Rattle.gp_hostfile.proofs.Finding.{found_goes_on, found_stops, found_ends}
use Rattle.gp_hostfile.proofs.Making.{zip_on}
use Rattle.gp_hostfile.proofs.check.check_ends.Goals as goal

pub returns-in_err-source-clause-fault : goal.returns-in_err-source-clause-fault
returns-in_err-source-clause-fault c =
    let p = err_from_is_err_and c.from_residual-in_err-source.result c.from_residual-in_err-source.ensures.1 in
    let e = c.in_err-source.field-0.0 in
    rw (p.1, p.2) (found_stops (ends_fault c.args.nodes.now) c.args.edges.now c.loop-edge.edge-index c.edge-item.result c.loop-edge-test.true c.edge-item.is _ c.loop-edge.invariant.0 e (first_refused e _ _ c.in_err-source.ensures))

pub returns-in_err-target-clause-fault : goal.returns-in_err-target-clause-fault
returns-in_err-target-clause-fault c =
    let p = err_from_is_err_and c.from_residual-in_err-target.result c.from_residual-in_err-target.ensures.1 in
    let e = c.in_err-target.field-0.0 in
    rw (p.1, p.2) (found_stops (ends_fault c.args.nodes.now) c.args.edges.now c.loop-edge.edge-index c.edge-item.result c.loop-edge-test.true c.edge-item.is _ c.loop-edge.invariant.0 e (then_refused e _ _ (rw c.in_ok-source.ensures refl) (first_refused e _ _ c.in_err-target.ensures)))

pub loop-edge-preserved : goal.loop-edge-preserved
loop-edge-preserved c = (
  found_goes_on (ends_fault c.args.nodes.now) c.args.edges.now c.loop-edge.edge-index c.edge-item.result c.loop-edge-test.true c.edge-item.is _ c.loop-edge.invariant.0 (rw (c.in_ok-source.ensures, c.in_ok-target.ensures) refl),
  zip_on (HasEnds c.args.nodes.now) c.args.edges.now c.loop-edge.ends.items _ c.loop-edge.edge-index c.edge-item.result _ c.loop-edge-test.true c.edge-item.is c.loop-edge.invariant.1 (record { source = c.in_ok-source.ensures; target = c.in_ok-target.ensures }) c.in_ok-put.ensures,
)

pub returns-clause-fault : goal.returns-clause-fault
returns-clause-fault c = found_ends (ends_fault c.args.nodes.now) c.args.edges.now c.loop-edge.edge-index _ c.loop-edge-test.false c.loop-edge.invariant.0

pub returns-clause-ends : goal.returns-clause-ends
returns-clause-ends c = subst (λ es. AllZip (HasEnds c.args.nodes.now) es c.loop-edge.ends.items) (take_long c.loop-edge.edge-index c.args.edges.now c.loop-edge-test.false) c.loop-edge.invariant.1
