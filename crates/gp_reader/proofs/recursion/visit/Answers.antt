use Rattle.std.proofs.Common.{◌≡◌, ◌∙◌, ap, sym, take, get_or, true, false, arith, length, ◌<◌, ◌++◌, ◌∷◌, [], ℕ, Bool, Vec, Global}
use Rattle.std.proofs.Math.ListN.{set}
use Rattle.std.proofs.lemmas.List.{take_more, get_or_default}
use Rattle.std.proofs.lemmas.List.Elements.{Contains-get_or}
use Rattle.gp_reader.proofs.Visits.{visited_again, visited_anew}
use Rattle.gp_reader.proofs.recursion.visit.Goals as goal
use Rattle.gp_reader.proofs.recursion.visit.Goals.{then-not-index+in_ok-push, else-not-index}

pub index-requires : goal.index-requires
index-requires c = omega (arith, c.loop-next.invariant.same_length, c.requires _ (Contains-get_or c.args.found.now c.loop-next.next-index 0 c.loop-next-test.true))

pub index_mut-requires : goal.index_mut-requires
index_mut-requires c = omega (arith, c.loop-next.invariant.same_length, c.requires _ (Contains-get_or c.args.found.now c.loop-next.next-index 0 c.loop-next-test.true))

pub loop-next-preserved : goal.loop-next-preserved
loop-next-preserved c =
    let x = get_or c.args.found.now c.loop-next.next-index 0 in
    let l : x < length c.loop-next.seen.items = omega (arith, c.loop-next.invariant.same_length, c.requires _ (Contains-get_or c.args.found.now c.loop-next.next-index 0 c.loop-next-test.true)) in
    let e : c.index.result.now ≡ get_or c.loop-next.seen.items x false = c.index.ensures ∙ get_or_default c.loop-next.seen.items x c.index.result.now false l in
    rw (take_more c.args.found.now c.loop-next.next-index 0 c.loop-next-test.true)
    (elim c.if-not-index.branch [
      | then-not-index+in_ok-push w ↦
          (let a : c.if-not-index.seen.items ≡ set c.loop-next.seen.items x true = ap (λ (v : Vec Bool Global). v.items) w.seen-is in
          let b : c.if-not-index.left.items ≡ c.loop-next.left.items ++ x ∷ [] = ap (λ (v : Vec ℕ Global). v.items) w.left-is ∙ w.in_ok-push.ensures.items in
          rw (a, b) (visited_anew (take c.loop-next.next-index c.args.found.now) x c.args.seen.now.items c.loop-next.seen.items c.args.left.now.items c.loop-next.left.items l (sym e ∙ w.if-not-index.true) c.loop-next.invariant))
      | else-not-index w ↦
          (let a : c.if-not-index.seen.items ≡ c.loop-next.seen.items = ap (λ (v : Vec Bool Global). v.items) w.seen-is in
          let b : c.if-not-index.left.items ≡ c.loop-next.left.items = ap (λ (v : Vec ℕ Global). v.items) w.left-is in
          rw (a, b) (visited_again (take c.loop-next.next-index c.args.found.now) x c.args.seen.now.items c.loop-next.seen.items c.args.left.now.items c.loop-next.left.items (sym e ∙ w.if-not-index.false) c.loop-next.invariant))
    ])
