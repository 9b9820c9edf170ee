use Rattle.std.proofs.Common.{sym, subst}
use Rattle.std.specs.Bool.{Decides}
use Rattle.std.proofs.lemmas.Bool.{or_left, or_right}
use Rattle.std.proofs.lemmas.Bool.Decides.{Decides-like, not_from_Decides}
use Rattle.std.proofs.lemmas.Result.{IfOk-weaker}
use Rattle.gp_syntax.specs.Tree.{rule_of_tree}
use Rattle.gp_independence.specs.Independent.{looks_around, Independent}
use Rattle.gp_independence.specs.inside.Shared.{PreservesAmong}
use Rattle.gp_independence.proofs.Deciding.{both_preserve, first_preserves, second_preserves, looks_at_shared, is_no, asked}
use Rattle.gp_independence.proofs.independence.preserve_shared.Goals as goal
use Rattle.gp_independence.proofs.independence.preserve_shared.Goals.{then-looks_around-via-then-looks_around, then-looks_around-via-else-looks_around+then-looks_around-2}

pub returns-then-looks_around : goal.returns-then-looks_around
returns-then-looks_around c =
    let r = rule_of_tree c.args.first_rule.now in
    let s = rule_of_tree c.args.second_rule.now in
    is_no (λ i. looks_at_shared i c.requires.shared.1 (elim c.then-looks_around.branch [
      | then-looks_around-via-then-looks_around w ↦ or_left (looks_around r) (looks_around s) (asked c.parts.ensures.value c.looks_around.ensures w.if-looks_around.true)
      | then-looks_around-via-else-looks_around+then-looks_around-2 w ↦
          or_right (looks_around r) (looks_around s) (asked w.parts-else-looks_around.ensures.value w.looks_around-else-looks_around.ensures w.if-looks_around-2.true)
    ]))

pub returns-then-not-branch : goal.returns-then-not-branch
returns-then-not-branch c =
    is_no (λ i. not_from_Decides c.in_ok-preserves_among.field-0 c.in_ok-preserves_among.ensures c.if-not-branch.true
    (subst (PreservesAmong (rule_of_tree c.args.first_rule.now) c.args.graph.now.graph c.args.first.now) (sym c.nodes.ensures) (first_preserves i)))

pub returns : goal.returns
returns c =
    let r = rule_of_tree c.args.first_rule.now in
    let s = rule_of_tree c.args.second_rule.now in
    let g = c.args.graph.now.graph in
    let m = c.args.first.now in
    let n = c.args.second.now in
    let k = asked c.parts.ensures.value c.looks_around.ensures c.if-looks_around.false in
    let l = asked c.parts-else-looks_around.ensures.value c.looks_around-else-looks_around.ensures c.if-looks_around-2.false in
    let p = subst (PreservesAmong r g m) c.nodes.ensures (c.in_ok-preserves_among.ensures.0 c.if-not-branch.false) in
    IfOk-weaker c.preserves_among-2.result _ (λ b. Decides b (Independent r s g m n))
    (λ b d. Decides-like b
    (λ q. both_preserve c.requires.first c.requires.second c.requires.shared.0 k l p (subst (PreservesAmong s g n) c.nodes-2.ensures q))
    (λ i. subst (PreservesAmong s g n) (sym c.nodes-2.ensures) (second_preserves i))
    d)
    c.preserves_among-2.ensures
