use Rattle.std.proofs.lemmas.Bool.{ltb-true, lt-ltb}
use Rattle.std.proofs.Common.{◌≡◌, ◌∙◌, ◌<◌, ◌≤◌, [], Bool, true, false, nat_lt, ap, sym, refl, Some, None, arith}
use Rattle.std.specs.Option.{option_copied}
use Rattle.gp_values.specs.Names.{Name}
use Rattle.gp_scope.specs.declared.survey.Survey.{Survey}
use Rattle.gp_scope.specs.Outline.{Outline, outline}
use Rattle.gp_scope.specs.Fault.{NoMain, TwoMains, TwoRules, Unknown, declares_main, mains_in, doubled_behind, unknown_name, fault_of_names}
use Rattle.gp_scope.specs.Surveys.{survey_of}
use Rattle.gp_scope.proofs.check.check_names.Goals as goal

no_main : (os : Outline) → declares_main os ≡ false → fault_of_names os ≡ Some NoMain
unfolding fault_of_names
no_main os a = rw (a) refl

two_mains : (os : Outline) → declares_main os ≡ true → nat_lt 1 (mains_in os) ≡ true → fault_of_names os ≡ Some TwoMains
unfolding fault_of_names
two_mains os a b = rw (a, b) refl

name_twice : (os : Outline) (n : Name) → declares_main os ≡ true → nat_lt 1 (mains_in os) ≡ false → doubled_behind [] os ≡ Some n → fault_of_names os ≡ Some (TwoRules n)
unfolding fault_of_names
name_twice os n a b d = rw (a, b, d) refl

name_unknown : (os : Outline) (n : Name) → declares_main os ≡ true → nat_lt 1 (mains_in os) ≡ false → doubled_behind [] os ≡ None → unknown_name os ≡ Some n → fault_of_names os ≡ Some (Unknown n)
unfolding fault_of_names
name_unknown os n a b d u = rw (a, b, d, u) refl

no_fault : (os : Outline) → declares_main os ≡ true → nat_lt 1 (mains_in os) ≡ false → doubled_behind [] os ≡ None → unknown_name os ≡ None → fault_of_names os ≡ None
unfolding fault_of_names
no_fault os a b d u = rw (a, b, d, u) refl

several : (os : Outline) (k : Survey) → k ≡ survey_of os → 1 < k.mains → nat_lt 1 (mains_in os) ≡ true
several os k e lt = lt-ltb 1 (mains_in os) (let m = ap (λ (s : Survey). s.mains) e in omega (arith, m, lt))

not_several : (os : Outline) (k : Survey) → k ≡ survey_of os → k.mains ≤ 1 → nat_lt 1 (mains_in os) ≡ false
not_several os k e le = go (nat_lt 1 (mains_in os)) refl
  where
    go : (b : Bool) → nat_lt 1 (mains_in os) ≡ b → b ≡ false
    go true h = let lt = ltb-true 1 (mains_in os) h in let m = ap (λ (s : Survey). s.mains) e in absurd (omega (arith, m, le, lt))
    go false h = refl

pub returns-then-not-has_main-clause-err : goal.returns-then-not-has_main-clause-err
returns-then-not-has_main-clause-err c = λ f e. no_main (outline c.args.declarations.now) (sym c.if-not-has_main.ensures) ∙ e

pub returns-then-count_declared-gt1-clause-err : goal.returns-then-count_declared-gt1-clause-err
returns-then-count_declared-gt1-clause-err c = λ f e.
    let os = outline c.args.declarations.now in
    two_mains os (sym c.if-not-has_main.ensures) (several os c.count_declared.result c.count_declared.ensures c.if-count_declared-gt1.true) ∙ e

pub returns-in-Some-clause-err : goal.returns-in-Some-clause-err
returns-in-Some-clause-err c = λ f e.
    let os = outline c.args.declarations.now in
    let d : doubled_behind [] os ≡ Some c.in_ok-copy.field-0 = sym c.in_ok-name.ensures ∙ ap option_copied c.in-Some.is ∙ ap Some (sym c.in_ok-copy.ensures) in
    name_twice os c.in_ok-copy.field-0 (sym c.if-not-has_main.ensures) (not_several os c.count_declared.result c.count_declared.ensures c.if-count_declared-gt1.false) d ∙ e

pub returns-in-Some-2-clause-err : goal.returns-in-Some-2-clause-err
returns-in-Some-2-clause-err c = λ f e.
    let os = outline c.args.declarations.now in
    let u : unknown_name os ≡ Some c.in_ok-copy-2.field-0 = sym c.in_ok-name-2.ensures ∙ ap option_copied c.in-Some-2.is ∙ ap Some (sym c.in_ok-copy-2.ensures) in
    let d : doubled_behind [] os ≡ None = sym c.in_ok-name.ensures ∙ ap option_copied c.in_default.is in
    name_unknown os c.in_ok-copy-2.field-0 (sym c.if-not-has_main.ensures) (not_several os c.count_declared.result c.count_declared.ensures c.if-count_declared-gt1.false) d u ∙ e

pub returns-clause-ok : goal.returns-clause-ok
returns-clause-ok c =
    let os = outline c.args.declarations.now in
    let d : doubled_behind [] os ≡ None = sym c.in_ok-name.ensures ∙ ap option_copied c.in_default.is in
    let u : unknown_name os ≡ None = sym c.in_ok-name-2.ensures ∙ ap option_copied c.in_default-2.is in
    no_fault os (sym c.if-not-has_main.ensures) (not_several os c.count_declared.result c.count_declared.ensures c.if-count_declared-gt1.false) d u

pub unknown_name-requires-clause-once : goal.unknown_name-requires-clause-once
unknown_name-requires-clause-once c = sym c.in_ok-name.ensures ∙ ap option_copied c.in_default.is
