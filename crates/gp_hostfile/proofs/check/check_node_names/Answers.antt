use Rattle.std.proofs.Common.{rules, ◌≡◌, true, ap}
use Rattle.std.specs.Prelude.{option_map}
use Rattle.gp_hostfile.specs.declared.fault.HostFault.TheVariants as faults
use Rattle.gp_hostfile.specs.declared.tree.NodeTree.{NodeTree}
use Rattle.gp_hostfile.proofs.Finding.{doubled_goes_on, doubled_ends, names_go_on, names_end}
use Rattle.gp_hostfile.proofs.check.check_node_names.Goals as goal

pub loop-node-preserved : goal.loop-node-preserved
loop-node-preserved c =
    let new : c.in_ok-add.field-0 ≡ true = search rules in (
      doubled_goes_on (λ (x : NodeTree). x.name) c.args.nodes.now c.loop-node.node-index c.node-item.result c.loop-node-test.true c.node-item.is c.loop-node.names c.add.new.self c.in_ok-add.field-0 (rw c.as_bytes.ensures at c.in_ok-add.ensures.new) (rw c.as_bytes.ensures at c.in_ok-add.ensures.names) new _ c.loop-node.invariant.0,
      names_go_on (λ (x : NodeTree). x.name) c.args.nodes.now c.loop-node.node-index c.node-item.result c.loop-node-test.true c.node-item.is c.loop-node.names c.add.new.self c.in_ok-add.field-0 (rw c.as_bytes.ensures at c.in_ok-add.ensures.new) (rw c.as_bytes.ensures at c.in_ok-add.ensures.names) new _ c.loop-node.invariant.1,
    )

pub returns-clause-fault : goal.returns-clause-fault
returns-clause-fault c = ap (option_map faults.TwoNodes) (doubled_ends (λ (x : NodeTree). x.name) c.args.nodes.now c.loop-node.node-index c.loop-node.names _ c.loop-node-test.false c.loop-node.invariant.0)

pub returns-clause-names : goal.returns-clause-names
returns-clause-names c = names_end (λ (x : NodeTree). x.name) c.args.nodes.now c.loop-node.node-index c.loop-node.names _ c.loop-node-test.false c.loop-node.invariant.1
