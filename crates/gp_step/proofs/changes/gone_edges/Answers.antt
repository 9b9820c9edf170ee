use Rattle.std.proofs.Common.{◌≡◌, ◌∙◌, ◌<◌, true, false, length, map, refl, sym, ap, arith}
use Rattle.gp_syntax.specs.Rule.{kept_edge, kept_edges}
use Rattle.gp_syntax.specs.Tree.{rule_of_tree, right_edge_of}
use Rattle.gp_step.specs.Halves.{stays, gone}
use Rattle.gp_step.specs.inside.Made.{number_of}
use Rattle.gp_step.proofs.Collecting.{gone_next}
use Rattle.gp_step.proofs.changes.gone_edges.Goals as goal
use Rattle.gp_step.proofs.changes.gone_edges.Goals.{then-not-keeps_edge+in_ok-push, else-not-keeps_edge}

pub loop-i-preserved : goal.loop-i-preserved
loop-i-preserved c =
    let kept = stays (kept_edges (rule_of_tree c.args.parts.now)) in
    let said : c.keeps_edge.result ≡ kept c.loop-i.i = c.keeps_edge.ensures ∙ ap (λ qs. stays (map (kept_edge (rule_of_tree c.args.parts.now)) (map right_edge_of qs)) c.loop-i.i) c.as_slice-right.ensures in
    let inside : c.loop-i.i < length c.args.edges.now = omega arith in
    let s = gone_next number_of (map number_of) (λ x xs. refl) kept c.args.edges.now c.loop-i.i _ c.loop-i.removed.items (gone kept (map number_of c.args.edges.now)) inside c.loop-i.invariant in
    elim c.if-not-keeps_edge.branch [
      | then-not-keeps_edge+in_ok-push w ↦
          (let no : kept c.loop-i.i ≡ false = sym said ∙ w.if-not-keeps_edge.true in
          rw w.removed-is (rw w.in_ok-push.ensures.items (rw w.number.ensures (rw c.index-edges-i.is (s.goes no)))))
      | else-not-keeps_edge w ↦
          (let yes : kept c.loop-i.i ≡ true = sym said ∙ w.if-not-keeps_edge.false in
          rw w.removed-is (s.stays yes))
    ]
