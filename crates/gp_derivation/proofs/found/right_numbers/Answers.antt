use Rattle.std.proofs.Common.{[], ◌∷◌, ◌++◌, length, ap, sym, ◌∙◌, arith}
use Rattle.gp_syntax.specs.declared.rule.RuleParts.{RuleParts}
use Rattle.gp_syntax.specs.Images.{EdgeImage}
use Rattle.gp_syntax.specs.Tree.{rule_of_tree}
use Rattle.gp_derivation.proofs.Rights.{begins_right, next_kept, next_made, is_room, all_numbers, place_below, number_at}
use Rattle.gp_derivation.proofs.found.right_numbers.Goals as goal
use Rattle.gp_derivation.proofs.found.right_numbers.Goals.{in-Some+in_ok-push-in-Some, in-None+in_ok-push-in-None}

pub loop-edge-init : goal.loop-edge-init
loop-edge-init c = begins_right c.args.found.now.edges c.parts-parts.result.now c.as_slice-edge-items.result.now c.new-numbers.result.items c.args.next c.as_slice-edge-items.ensures c.new-numbers.ensures.items

pub bounds-images-place : goal.bounds-images-place
bounds-images-place c =
    place_below c.parts-parts.result.now c.edge-item.result c.edges-images.result.now c.args.found.now.edges c.in-Some.place (c.requires.edges ∙ ap (λ (p : RuleParts). length (rule_of_tree p).left_edges) (sym c.parts-parts.ensures.value)) c.edges-images.ensures.numbers c.in-Some.ensures

pub overflow_add-free : goal.overflow_add-free
overflow_add-free c =
    let room = is_room c.args.found.now.edges c.parts-parts.result.now c.as_slice-edge-items.result.now c.loop-edge.edge-index c.edge-item.result c.loop-edge.numbers.items c.loop-edge.free _ _ c.loop-edge-test.true c.edge-item.is c.in-None.ensures c.loop-edge.invariant in
    let most = rw (← c.parts-parts.ensures.value) at c.requires.room in
    omega arith

pub loop-edge-preserved : goal.loop-edge-preserved
loop-edge-preserved c = elim c.match-kept_edge.branch [
  | in-Some+in_ok-push-in-Some w ↦
      rw (w.numbers-is, w.free-is)
      (next_kept c.args.found.now.edges c.parts-parts.result.now c.as_slice-edge-items.result.now c.loop-edge.edge-index c.edge-item.result c.loop-edge.numbers.items _ w.in-Some.place c.loop-edge.free _ _ c.loop-edge-test.true c.edge-item.is w.in-Some.ensures
      (w.in_ok-push-in-Some.ensures.items ∙ ap (λ n. c.loop-edge.numbers.items ++ n ∷ []) (w.number.ensures ∙ ap (λ (j : EdgeImage). j.number) w.index-images-place.is ∙ number_at c.parts-parts.result.now c.edge-item.result c.edges-images.result.now c.args.found.now.edges w.in-Some.place _ (c.requires.edges ∙ ap (λ (p : RuleParts). length (rule_of_tree p).left_edges) (sym c.parts-parts.ensures.value)) c.edges-images.ensures.numbers w.in-Some.ensures))
      c.loop-edge.invariant)
  | in-None+in_ok-push-in-None w ↦
      rw (w.numbers-is, w.free-is)
      (next_made c.args.found.now.edges c.parts-parts.result.now c.as_slice-edge-items.result.now c.loop-edge.edge-index c.edge-item.result c.loop-edge.numbers.items _ c.loop-edge.free _ _ c.loop-edge-test.true c.edge-item.is w.in-None.ensures w.in_ok-push-in-None.ensures.items c.loop-edge.invariant)
]

pub returns : goal.returns
returns c = rw (← c.parts-parts.ensures.value) (all_numbers c.args.found.now.edges c.parts-parts.result.now c.as_slice-edge-items.result.now c.loop-edge.edge-index c.loop-edge.numbers.items c.loop-edge.free _ _ c.loop-edge-test.false c.loop-edge.invariant)
