use Rattle.std.proofs.Common.{◌≡◌, ap, arith}
use Rattle.std.specs.Prelude.{flat_map}
use Rattle.gp_values.specs.Order.{nodes_from}
use Rattle.gp_hostfile.specs.GraphText.{node_line}
use Rattle.gp_hostfile.proofs.Lines.{one_node}
use Rattle.gp_hostfile.proofs.Puts.{nothing, and_then, told}
use Rattle.gp_hostfile.proofs.text.put_nodes.Goals as goal

pub loop-n-init : goal.loop-n-init
loop-n-init c = nothing

pub loop-n-preserved : goal.loop-n-preserved
loop-n-preserved c = told (one_node c.args.graph.now.graph c.loop-n.n) (and_then c.loop-n.invariant c.put_node_at.ensures)

pub returns : goal.returns
returns c =
    let e : c.args.graph.now.graph.next_node ≡ c.loop-n.n = grind arith in
    told (ap (λ k. flat_map node_line (nodes_from c.args.graph.now.graph 0 k)) e) c.loop-n.invariant
