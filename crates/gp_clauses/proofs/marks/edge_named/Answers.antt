use Rattle.std.proofs.Common.{◌∙◌, ◌+◌, if◌then◌else◌, map, drop, Some, sym, ap}
use Rattle.gp_syntax.specs.Declaration.{edge_named}
use Rattle.gp_syntax.specs.Tree.{edge_of}
use Rattle.gp_clauses.proofs.Walks.{passed, item_at}
use Rattle.gp_clauses.proofs.marks.edge_named.Goals as goal

pub loop-edge-preserved : goal.loop-edge-preserved
loop-edge-preserved c =
    let xs = c.args.edges.now in
    passed (λ ns. edge_named (map edge_of ns) c.args.name.now) xs c.loop-edge.edge-index _ _ (item_at xs _ _ c.loop-edge-test.true c.edge-item.is)
    (ap (λ b. if b then Some (edge_of c.edge-item.result) else edge_named (map edge_of (drop (c.loop-edge.edge-index + 1) xs)) c.args.name.now) (sym c.same.ensures ∙ c.if-same.false)) c.loop-edge.invariant
