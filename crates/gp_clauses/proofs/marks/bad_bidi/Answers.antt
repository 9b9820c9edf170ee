use Rattle.std.proofs.Common.{◌∙◌, ◌+◌, map, drop, sym, ap}
use Rattle.std.specs.Option.{option_or}
use Rattle.gp_syntax.specs.Declaration.{DeclaredEdge}
use Rattle.gp_syntax.specs.Fault.{first_told, unless, keeps_direction}
use Rattle.gp_syntax.specs.Tree.{edge_of, declaration_of}
use Rattle.gp_clauses.proofs.Walks.{passed, item_at}
use Rattle.gp_clauses.proofs.marks.bad_bidi.Goals as goal

pub loop-edge-preserved : goal.loop-edge-preserved
loop-edge-preserved c =
    let d = declaration_of c.args.rule.now in
    let xs = c.as_slice-edge-items.result.now in
    passed (λ es. first_told (λ (e : DeclaredEdge). unless (keeps_direction d e) e.name) (map edge_of es)) xs c.loop-edge.edge-index _ _ (item_at xs _ _ c.loop-edge-test.true c.edge-item.is)
    (ap (λ b. option_or (unless b c.edge-item.result.name) (first_told (λ (e : DeclaredEdge). unless (keeps_direction d e) e.name) (map edge_of (drop (c.loop-edge.edge-index + 1) xs)))) (sym c.keeps_direction.ensures ∙ c.if-not-keeps_direction.false)) c.loop-edge.invariant
