use Rattle.std.proofs.Common.{◌∙◌, ◌+◌, if◌then◌else◌, map, drop, Some, sym, ap}
use Rattle.gp_syntax.specs.Fault.{node_named}
use Rattle.gp_syntax.specs.Tree.{node_of}
use Rattle.gp_clauses.proofs.Walks.{passed, item_at}
use Rattle.gp_clauses.proofs.marks.node_named.Goals as goal

pub loop-node-preserved : goal.loop-node-preserved
loop-node-preserved c =
    let xs = c.args.nodes.now in
    passed (λ ns. node_named (map node_of ns) c.args.name.now) xs c.loop-node.node-index _ _ (item_at xs _ _ c.loop-node-test.true c.node-item.is)
    (ap (λ b. if b then Some (node_of c.node-item.result) else node_named (map node_of (drop (c.loop-node.node-index + 1) xs)) c.args.name.now) (sym c.same.ensures ∙ c.if-same.false)) c.loop-node.invariant
