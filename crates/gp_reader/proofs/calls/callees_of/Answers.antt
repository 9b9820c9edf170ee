use Rattle.std.proofs.Common.{◌≡◌, ℕ, ◌+◌, [], ◌∷◌, ◌++◌, map, take, sym, ap, ◌∙◌}
use Rattle.std.proofs.lemmas.List.{take_more, map-append}
use Rattle.gp_reader.proofs.Trees.{calls_by}
use Rattle.gp_reader.proofs.calls.callees_of.Goals as goal

pub loop-body-preserved : goal.loop-body-preserved
loop-body-preserved c =
    let xs = c.args.bodies.now in
    let i = c.loop-body.body-index in
    let x = c.body-item.result in
    let more : take (i + 1) xs ≡ take i xs ++ x ∷ [] = take_more xs i x c.loop-body-test.true ∙ ap (λ y. take i xs ++ y ∷ []) (sym c.body-item.is) in
    let one : c.from_vec.result ≡ calls_by x = c.from_vec.ensures ∙ c.in_ok-push_calls.ensures ∙ ap (λ l. l ++ calls_by x) c.new-called.ensures.items in
    c.in_ok-push.ensures.items ∙ (λ j. c.loop-body.invariant j ++ one j ∷ []) ∙ sym (ap (map calls_by) more ∙ map-append calls_by (take i xs) (x ∷ []))
