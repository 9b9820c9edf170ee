use Rattle.std.proofs.Common.{arith, rules, ◌≡◌, ◌∙◌, ◌+◌, ◌<◌, ◌^◌, ◌++◌, ◌∷◌, [], ap, sym, subst, drop, Option, Some, None, option_map, is_some, true, false, refl}
use Rattle.std.specs.Option.{option_or, option_copied}
use Rattle.gp_values.specs.Names.{Name}
use Rattle.gp_scope.specs.declared.survey.Survey.{Survey}
use Rattle.gp_scope.specs.Outline.{outline, named}
use Rattle.gp_scope.specs.Names.{scope_within, bodies_in_text}
use Rattle.gp_scope.specs.Fault.{doubled_behind, first_told, unknown_in}
use Rattle.gp_scope.specs.inside.Levels.{scope_of}
use Rattle.gp_scope.specs.Surveys.{declarations_in, weight, weights}
use Rattle.gp_scope.specs.inside.Doubles.{name_of}
use Rattle.gp_scope.specs.inside.Declares.{unknown_of}
use Rattle.gp_scope.proofs.Outlines.{outline_from, outline_past, weight-Procedure, weighs_less}
use Rattle.gp_scope.proofs.Declared.{few_here, once_here, still_few, rule_once, procedure_once}
use Rattle.gp_scope.proofs.Within.{fits_within, few_within, pushed_scope, inner_told, rule_tells, procedure_tells}
use Rattle.gp_scope.proofs.strangers.+strangers.Goals as goal

some_told : {X : Type 0} (o : Option X) (f : X → Name) (r : Option Name) → is_some o ≡ true → option_or (option_map f o) r ≡ option_map f o
some_told (Some x) f r e = refl
some_told None f r e = cc

none_told : {X : Type 0} (o : Option X) (f : X → Name) (r : Option Name) → is_some o ≡ false → option_or (option_map f o) r ≡ r
none_told (Some x) f r e = cc
none_told None f r e = refl

pub first_unknown-unknown_within-requires : goal.first_unknown-unknown_within-requires
first_unknown-unknown_within-requires t c =
    let i = c.each.declaration-index in
    let ds = c.args.declarations.now in
    let d = c.declaration-item.result in
    let w = weighs_less ds i d c.each-test.true c.declaration-item.is in
    let once = c.each.invariant.once in
    let o = once_here ds i d once.0 c.each-test.true c.declaration-item.is once.1 in
    let few = few_here ds i d c.each.at c.each-test.true c.declaration-item.is c.each.invariant.few in
    (search rules, (once.0, (outline (drop (i + 1) ds), (o, few))))

pub first_unknown-returns-then-is_some-clause-told : goal.first_unknown-returns-then-is_some-clause-told
first_unknown-returns-then-is_some-clause-told t c =
    let i = c.each.declaration-index in
    let ds = c.args.declarations.now in
    let d = c.declaration-item.result in
    let rest = outline (drop (i + 1) ds) in
    let e = outline_from ds i d c.each-test.true c.declaration-item.is in
    sym (some_told c.in_ok-found.found (λ x. x.now) _ (sym c.if-is_some.ensures)) ∙ sym (c.in_ok-found.ensures.told c.count_one.result c.count_one.ensures rest)
    ∙ ap (λ o. first_told unknown_of (bodies_in_text (scope_of c.each.levels.items) c.each.at.rules c.each.at.procedures o)) (sym e)
    ∙ ap (λ l. first_told unknown_of (bodies_in_text (scope_of l) c.each.at.rules c.each.at.procedures (outline (drop i ds)))) c.each.invariant.levels ∙ c.each.invariant.told

pub first_unknown-plus-behind-requires-clause-rules : goal.first_unknown-plus-behind-requires-clause-rules
first_unknown-plus-behind-requires-clause-rules t c =
    let i = c.each.declaration-index in
    let ds = c.args.declarations.now in
    let d = c.declaration-item.result in
    let few = few_here ds i d c.each.at c.each-test.true c.declaration-item.is c.each.invariant.few in
    (still_few c.each.at c.count_one.result d (outline (drop (i + 1) ds)) c.count_one.ensures few).rules

pub first_unknown-plus-behind-requires-clause-procedures : goal.first_unknown-plus-behind-requires-clause-procedures
first_unknown-plus-behind-requires-clause-procedures t c =
    let i = c.each.declaration-index in
    let ds = c.args.declarations.now in
    let d = c.declaration-item.result in
    let few = few_here ds i d c.each.at c.each-test.true c.declaration-item.is c.each.invariant.few in
    (still_few c.each.at c.count_one.result d (outline (drop (i + 1) ds)) c.count_one.ensures few).procedures

pub first_unknown-plus-behind-requires-clause-mains : goal.first_unknown-plus-behind-requires-clause-mains
first_unknown-plus-behind-requires-clause-mains t c =
    let i = c.each.declaration-index in
    let ds = c.args.declarations.now in
    let d = c.declaration-item.result in
    let few = few_here ds i d c.each.at c.each-test.true c.declaration-item.is c.each.invariant.few in
    (still_few c.each.at c.count_one.result d (outline (drop (i + 1) ds)) c.count_one.ensures few).mains

pub first_unknown-each-preserved : goal.first_unknown-each-preserved
first_unknown-each-preserved t c =
    let i = c.each.declaration-index in
    let ds = c.args.declarations.now in
    let d = c.declaration-item.result in
    let rest = outline (drop (i + 1) ds) in
    let e = outline_from ds i d c.each-test.true c.declaration-item.is in
    let once = c.each.invariant.once in
    let o = once_here ds i d once.0 c.each-test.true c.declaration-item.is once.1 in
    let few = few_here ds i d c.each.at c.each-test.true c.declaration-item.is c.each.invariant.few in
    let f = still_few c.each.at c.count_one.result d rest c.count_one.ensures few in
    record {
      told = ap (λ (s : Survey). first_told unknown_of (bodies_in_text (scope_of c.args.levels.now.items) s.rules s.procedures rest)) c.plus-behind.ensures
          ∙ ap (λ l. first_told unknown_of (bodies_in_text (scope_of l) (c.each.at.rules + c.count_one.result.rules) (c.each.at.procedures + c.count_one.result.procedures) rest)) (sym c.each.invariant.levels)
          ∙ sym (none_told c.in_ok-found.found (λ x. x.now) _ (sym c.if-is_some.ensures)) ∙ sym (c.in_ok-found.ensures.told c.count_one.result c.count_one.ensures rest)
          ∙ ap (λ o. first_told unknown_of (bodies_in_text (scope_of c.each.levels.items) c.each.at.rules c.each.at.procedures o)) (sym e)
          ∙ ap (λ l. first_told unknown_of (bodies_in_text (scope_of l) c.each.at.rules c.each.at.procedures (outline (drop i ds)))) c.each.invariant.levels ∙ c.each.invariant.told;
      levels = c.in_ok-found.ensures.levels ∙ c.each.invariant.levels;
      once = (once.0 ++ name_of d ∷ [], c.in_ok-found.ensures.once once.0 rest o);
      few = subst (λ (s : Survey). s.rules + s.procedures + s.mains + declarations_in rest < 2 ^ 32) (sym c.plus-behind.ensures) f.behind;
    }

pub unknown_within-with_procedure-within-requires-clause-procedures : goal.unknown_within-with_procedure-within-requires-clause-procedures
unknown_within-with_procedure-within-requires-clause-procedures t c = (fits_within c.args.declaration.now c.in-Procedure.name c.in-Procedure.declarations c.in-Procedure.body c.args.at c.in-Procedure.is c.requires).procedures

pub unknown_within-with_procedure-within-requires-clause-mains : goal.unknown_within-with_procedure-within-requires-clause-mains
unknown_within-with_procedure-within-requires-clause-mains t c = (fits_within c.args.declaration.now c.in-Procedure.name c.in-Procedure.declarations c.in-Procedure.body c.args.at c.in-Procedure.is c.requires).mains

pub unknown_within-enter-requires-clause-once : goal.unknown_within-enter-requires-clause-once
unknown_within-enter-requires-clause-once t c = ap (λ ds. doubled_behind [] (outline ds)) c.as_slice.ensures ∙ (fits_within c.args.declaration.now c.in-Procedure.name c.in-Procedure.declarations c.in-Procedure.body c.args.at c.in-Procedure.is c.requires).once

pub unknown_within-enter-requires-clause-few : goal.unknown_within-enter-requires-clause-few
unknown_within-enter-requires-clause-few t c =
    let f = fits_within c.args.declaration.now c.in-Procedure.name c.in-Procedure.declarations c.in-Procedure.body c.args.at c.in-Procedure.is c.requires in
    few_within c.args.at c.with_procedure-within.result c.in-Procedure.name c.in-Procedure.declarations c.as_slice.result.now c.with_procedure-within.ensures c.as_slice.ensures f.few

pub unknown_within-first_unknown-requires : goal.unknown_within-first_unknown-requires
unknown_within-first_unknown-requires t c =
    let f = fits_within c.args.declaration.now c.in-Procedure.name c.in-Procedure.declarations c.in-Procedure.body c.args.at c.in-Procedure.is c.requires in
    let are = c.as_slice-in-Procedure.ensures in
    let w : weight c.args.declaration.now ≡ 1 + weights c.in-Procedure.declarations = ap weight c.in-Procedure.is ∙ weight-Procedure c.in-Procedure.name c.in-Procedure.declarations c.in-Procedure.body in
    (search rules, (ap (λ ds. doubled_behind [] (outline ds)) are ∙ f.once, few_within c.args.at c.with_procedure-within.result c.in-Procedure.name c.in-Procedure.declarations c.as_slice-in-Procedure.result.now c.with_procedure-within.ensures are f.few))

pub unknown_within-returns-in-Rule-clause-told : goal.unknown_within-returns-in-Rule-clause-told
unknown_within-returns-in-Rule-clause-told t c = rule_tells c.args.declaration.now c.in-Rule.field-0 (scope_of c.args.levels.now.items) c.args.at.rules c.args.at.procedures c.in-Rule.is

in_both : {X : Type 0} (f : X → Name) (a b : Option X) (u : Option Name) → a ≡ None → option_map f b ≡ u → option_map f b ≡ option_or (option_map f a) u
in_both f a b u e h = h ∙ sym (ap (λ x. option_or (option_map f x) u) e)

in_first : {X : Type 0} (f : X → Name) (a b : Option X) (u : Option Name) → (a ≡ None → ⊥) → b ≡ a → option_map f b ≡ option_or (option_map f a) u
in_first f (Some x) b u n e = ap (option_map f) e
in_first f None b u n e = absurd (n refl)

pub unknown_within-returns-after-branch-3-clause-told : goal.unknown_within-returns-after-branch-3-clause-told
unknown_within-returns-after-branch-3-clause-told t c =
    let p = c.in-Procedure in
    let scope = pushed_scope c.args.at c.with_procedure-within.result p.name p.declarations c.as_slice.result.now c.args.levels.now.items c.enter.new.levels.items _
    c.with_procedure-within.ensures c.as_slice.ensures refl c.in_ok-enter-in-Procedure.ensures in
    let told = inner_told c.args.at c.with_procedure-within.result p.name p.declarations c.as_slice-in-Procedure.result.now (scope_of c.enter.new.levels.items) _ (option_copied c.in_ok-found-in-Procedure.found)
    c.with_procedure-within.ensures c.as_slice-in-Procedure.ensures scope c.in_ok-found-in-Procedure.ensures.told in
    let s = scope_of c.args.levels.now.items in
    let within = scope_within s c.args.at.rules c.args.at.procedures p.name (outline p.declarations) in
    let both = ap (λ o. option_or o (unknown_in within (named p.body))) told in
    elim c.match-branch-3.branch [
      | goal.unknown_within-in-None w ↦
          let here = ap (λ l. unknown_in (scope_of l) (named p.body)) (w.as_slice-in-None.ensures.value ∙ c.in_ok-found-in-Procedure.ensures.levels) ∙ ap (λ x. unknown_in x (named p.body)) scope in
          let f = ap option_copied w.found-is ∙ in_both (λ x. x.now) c.in_ok-found-in-Procedure.found w.unknown_in-found.result _ w.in-None.is (w.unknown_in-found.ensures ∙ here) ∙ both in
          procedure_tells c.args.declaration.now p.name p.declarations p.body s c.args.at.rules c.args.at.procedures (option_copied c.match-branch-3.found) p.is f
      | goal.unknown_within-in_default w ↦
          let f = in_first (λ x. x.now) c.in_ok-found-in-Procedure.found c.match-branch-3.found (unknown_in within (named p.body)) w.in_default.not-None w.found-is ∙ both in
          procedure_tells c.args.declaration.now p.name p.declarations p.body s c.args.at.rules c.args.at.procedures (option_copied c.match-branch-3.found) p.is f
    ]

pub unknown_within-returns-in-Rule-clause-once : goal.unknown_within-returns-in-Rule-clause-once
unknown_within-returns-in-Rule-clause-once t c = rule_once c.args.declaration.now c.in-Rule.field-0 c.in-Rule.is

pub unknown_within-returns-after-branch-3-clause-once : goal.unknown_within-returns-after-branch-3-clause-once
unknown_within-returns-after-branch-3-clause-once t c = procedure_once c.args.declaration.now c.in-Procedure.name c.in-Procedure.declarations c.in-Procedure.body c.in-Procedure.is

pub first_unknown-count_one-requires : goal.first_unknown-count_one-requires
first_unknown-count_one-requires t c =
    let i = c.each.declaration-index in
    let ds = c.args.declarations.now in
    let few = few_here ds i c.declaration-item.result c.each.at c.each-test.true c.declaration-item.is c.each.invariant.few in
    (outline (drop (i + 1) ds), omega (arith, few))

pub first_unknown-returns-clause-told : goal.first_unknown-returns-clause-told
first_unknown-returns-clause-told t c =
    sym (ap (λ o. first_told unknown_of (bodies_in_text (scope_of c.args.levels.now.items) c.each.at.rules c.each.at.procedures o)) (outline_past c.args.declarations.now c.each.declaration-index c.each-test.false)) ∙ c.each.invariant.told
