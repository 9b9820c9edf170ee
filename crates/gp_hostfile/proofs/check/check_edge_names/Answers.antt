use Rattle.std.proofs.Common.{rules, ◌≡◌, ◌∙◌, true, Some, ap, sym}
use Rattle.std.specs.Prelude.{option_map}
use Rattle.gp_hostfile.specs.declared.fault.HostFault.TheVariants as faults
use Rattle.gp_hostfile.specs.declared.tree.EdgeTree.{EdgeTree}
use Rattle.gp_hostfile.proofs.Finding.{doubled_goes_on, doubled_stops, doubled_ends}
use Rattle.gp_hostfile.proofs.check.check_edge_names.Goals as goal

pub loop-edge-preserved : goal.loop-edge-preserved
loop-edge-preserved c =
    let new : c.in_ok-add.field-0 ≡ true = search rules in
    doubled_goes_on (λ (x : EdgeTree). x.name) c.args.edges.now c.loop-edge.edge-index c.edge-item.result c.loop-edge-test.true c.edge-item.is c.loop-edge.names c.add.new.self c.in_ok-add.field-0 (rw c.as_bytes.ensures at c.in_ok-add.ensures.new) (rw c.as_bytes.ensures at c.in_ok-add.ensures.names) new _ c.loop-edge.invariant

pub returns-then-not-branch : goal.returns-then-not-branch
returns-then-not-branch c =
    let twice = doubled_stops (λ (x : EdgeTree). x.name) c.args.edges.now c.loop-edge.edge-index c.edge-item.result c.loop-edge-test.true c.edge-item.is c.loop-edge.names c.in_ok-add.field-0 (rw c.as_bytes.ensures at c.in_ok-add.ensures.new) c.if-not-branch.true _ c.loop-edge.invariant in
    ap (option_map faults.TwoEdges) twice ∙ ap (λ n. Some (faults.TwoEdges n)) (sym c.in_ok-copy.ensures)

pub returns : goal.returns
returns c = ap (option_map faults.TwoEdges) (doubled_ends (λ (x : EdgeTree). x.name) c.args.edges.now c.loop-edge.edge-index c.loop-edge.names _ c.loop-edge-test.false c.loop-edge.invariant)
