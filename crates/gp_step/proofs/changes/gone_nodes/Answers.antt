use Rattle.std.proofs.Common.{◌≡◌, ◌∙◌, ◌<◌, true, false, length, map, refl, sym, ap, arith}
use Rattle.gp_syntax.specs.Rule.{kept_nodes}
use Rattle.gp_syntax.specs.Tree.{rule_of_tree, right_node_of}
use Rattle.gp_step.specs.Halves.{stays, gone}
use Rattle.gp_step.specs.Edits.{origin_of}
use Rattle.gp_step.proofs.Collecting.{gone_next}
use Rattle.gp_step.proofs.changes.gone_nodes.Goals as goal
use Rattle.gp_step.proofs.changes.gone_nodes.Goals.{then-not-keeps_node+in_ok-push, else-not-keeps_node}

pub loop-i-preserved : goal.loop-i-preserved
loop-i-preserved c =
    let kept = stays (kept_nodes (rule_of_tree c.args.parts.now)) in
    let said : c.keeps_node.result ≡ kept c.loop-i.i = c.keeps_node.ensures ∙ ap (λ qs. stays (map origin_of (map right_node_of qs)) c.loop-i.i) c.as_slice-right.ensures in
    let inside : c.loop-i.i < length c.args.nodes.now = omega arith in
    let s = gone_next (λ n. n) (λ ns. ns) (λ n ns. refl) kept c.args.nodes.now c.loop-i.i 0 c.loop-i.removed.items (gone kept c.args.nodes.now) inside c.loop-i.invariant in
    elim c.if-not-keeps_node.branch [
      | then-not-keeps_node+in_ok-push w ↦
          (let no : kept c.loop-i.i ≡ false = sym said ∙ w.if-not-keeps_node.true in
          rw w.removed-is (rw w.in_ok-push.ensures.items (s.goes no)))
      | else-not-keeps_node w ↦
          (let yes : kept c.loop-i.i ≡ true = sym said ∙ w.if-not-keeps_node.false in
          rw w.removed-is (s.stays yes))
    ]
