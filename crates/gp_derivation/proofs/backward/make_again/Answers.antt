use Rattle.std.proofs.Common.{◌≡◌, ◌≤◌, ◌∙◌, ◌-◌, List, ℕ, map, length, take, drop, ap, sym, subst, arith, length-drop}
use Rattle.std.proofs.lemmas.List.{take_all}
use Rattle.gp_syntax.specs.Tree.{rule_of_tree}
use Rattle.gp_journal.specs.Trail.{Trail, back_by}
use Rattle.gp_journal.specs.Journal.{items_of}
use Rattle.gp_derivation.specs.inside.Stands.{StepsOn}
use Rattle.gp_derivation.proofs.StepperStacks.{steps_depth, steps_back}
use Rattle.gp_derivation.proofs.backward.make_again.Goals as goal

-- a slice to the end
last_of : (ns all : List ℕ) (n k : ℕ) → all ≡ ns → n ≡ length ns → drop (length ns - k) ns ≡ take (length all - (n - k)) (drop (n - k) all)
last_of ns all n k same e =
    let l = length-drop (length ns - k) ns in
    sym (ap (λ (xs : List ℕ). take (length xs - (n - k)) (drop (n - k) xs)) same ∙ ap (λ j. take (length ns - (j - k)) (drop (j - k) ns)) e ∙ take_all (length ns - (length ns - k)) (drop (length ns - k) ns) (omega arith))

pub make_steps-requires : goal.make_steps-requires
make_steps-requires c =
    let s = c.args.standing.now in
    subst (λ ns. (t : Trail) × StepsOn (map rule_of_tree c.args.rules.now) (items_of c.args.items.now) ns s.trail t) (last_of s.taken.items c.deref.result.now c.len.result c.args.count c.deref.ensures.value (c.len.ensures ∙ s.taken.ok.0)) c.requires.steps

pub returns-in-Ok-clause-trail : goal.returns-in-Ok-clause-trail
returns-in-Ok-clause-trail c = λ t w.
    let s = c.args.standing.now in
    c.in_ok-make_steps.ensures.ok t
    (subst (λ ns. StepsOn (map rule_of_tree c.args.rules.now) (items_of c.args.items.now) ns s.trail t) (last_of s.taken.items c.deref.result.now c.len.result c.args.count c.deref.ensures.value (c.len.ensures ∙ s.taken.ok.0)) w)

pub back-requires : goal.back-requires
back-requires c =
    let s = c.args.standing.now in
    let w = c.requires.steps in
    let e = last_of s.taken.items c.deref.result.now c.len.result c.args.count c.deref.ensures.value (c.len.ensures ∙ s.taken.ok.0) in
    let same = c.in_ok-make_steps.ensures.ok w.0 (subst (λ ns. StepsOn (map rule_of_tree c.args.rules.now) (items_of c.args.items.now) ns s.trail w.0) e w.1) in
    let d = steps_depth (map rule_of_tree c.args.rules.now) (items_of c.args.items.now) (drop (length s.taken.items - c.args.count) s.taken.items) s.trail w.0 w.1 in
    let l = length-drop (length s.taken.items - c.args.count) s.taken.items in
    subst (λ (t : Trail). c.args.count ≤ length t.before) same (omega (arith, d, l, c.requires.taken))

pub returns-in-Err-clause-trail_stays : goal.returns-in-Err-clause-trail_stays
returns-in-Err-clause-trail_stays c =
    let s = c.args.standing.now in
    let w = c.requires.steps in
    let e = last_of s.taken.items c.deref.result.now c.len.result c.args.count c.deref.ensures.value (c.len.ensures ∙ s.taken.ok.0) in
    let same = c.in_ok-make_steps.ensures.ok w.0 (subst (λ ns. StepsOn (map rule_of_tree c.args.rules.now) (items_of c.args.items.now) ns s.trail w.0) e w.1) in
    let l : length (drop (length s.taken.items - c.args.count) s.taken.items) ≡ c.args.count = length-drop (length s.taken.items - c.args.count) s.taken.items ∙ (let z : length s.taken.items - (length s.taken.items - c.args.count) ≡ c.args.count = omega (arith, c.requires.taken) in z) in
    c.back.ensures.back ∙ ap (back_by c.args.count) (sym same)
    ∙ subst (λ k. back_by k w.0 ≡ s.trail) l (steps_back (map rule_of_tree c.args.rules.now) (items_of c.args.items.now) (drop (length s.taken.items - c.args.count) s.taken.items) s.trail w.0 w.1)
