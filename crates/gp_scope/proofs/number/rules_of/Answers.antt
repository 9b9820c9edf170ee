use Rattle.std.proofs.Common.{◌≡◌, ◌∙◌, ◌+◌, ◌++◌, ◌∷◌, [], ap, sym, map, take}
use Rattle.std.proofs.lemmas.List.{take_all, take_more, map-append}
use Rattle.gp_scope.specs.Resolved.{rule_number}
use Rattle.gp_scope.specs.inside.Levels.{scope_of}
use Rattle.gp_scope.proofs.number.rules_of.Goals as goal

pub each-preserved : goal.each-preserved
each-preserved c =
    let i = c.each.name-index in
    let names = c.args.names.now in
    let f = rule_number (scope_of c.args.levels.now) in
    let x = c.name-item.result in
    let more : take (i + 1) names ≡ take i names ++ x ∷ [] = take_more names i x c.each-test.true ∙ ap (λ y. take i names ++ y ∷ []) (sym c.name-item.is) in
    c.in_ok-push.ensures.items ∙ ap (λ l. l ++ c.rule_at.result ∷ []) c.each.invariant ∙ ap (λ n. map f (take i names) ++ n ∷ []) c.rule_at.ensures ∙ sym (ap (map f) more ∙ map-append f (take i names) (x ∷ []))

pub returns : goal.returns
returns c = c.from_vec.ensures ∙ c.each.invariant ∙ ap (map (rule_number (scope_of c.args.levels.now))) (take_all c.each.name-index c.args.names.now c.each-test.false)
