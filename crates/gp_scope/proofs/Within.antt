-- In a procedure: what is declared and visible there.
use Rattle.std.proofs.Common.{◌≡◌, ℕ, ◌+◌, ◌<◌, ◌^◌, List, [], ◌∷◌, ◌++◌, length, Option, None, refl, sym, ap, subst, ◌∙◌, arith}
use Rattle.std.specs.Option.{option_or}
use Rattle.std.proofs.lemmas.List.Sums.{fold-append}
use Rattle.gp_values.specs.Names.{Name}
use Rattle.gp_syntax.specs.declared.tree.RuleDecl.{RuleDecl}
use Rattle.gp_syntax.specs.declared.tree.CommandTree.{CommandTree}
use Rattle.gp_syntax.specs.declared.tree.Decl.{Decl}
use Rattle.gp_syntax.specs.declared.tree.Decl.TheVariants as decl
use Rattle.gp_scope.specs.declared.survey.Survey.{Survey}
use Rattle.gp_scope.specs.Outline.{Outline, is_main, own_number, rules_in, procedures_in, declared, outline, named}
use Rattle.gp_scope.specs.Names.{Scope, Body, entries, scope_within, bodies, bodies_in_text}
use Rattle.gp_scope.specs.Fault.{doubled_behind, first_told, unknown_in}
use Rattle.gp_scope.specs.inside.Levels.{scope_of}
use Rattle.gp_scope.specs.Surveys.{declarations_in, main_number, one_more_counted}
use Rattle.gp_scope.specs.inside.Declares.{Stands, TellsUnknown, unknown_of}
use Rattle.gp_scope.specs.inside.Numbering.{Numbered, Numbers, with_body, with_bodies}
use Rattle.gp_scope.proofs.Counted.{one_or_other}
use Rattle.gp_scope.proofs.Outlines.{declared-Rule, declared-Procedure}
use Rattle.gp_scope.proofs.Declared.{rule_counts, procedure_counts, local_once}
use Rattle.gp_scope.proofs.Told.{told_together}

pub record FitsWithin (at : Survey) (n : Name) (ds : List Decl) : Type 0 where
  pub once : doubled_behind [] (outline ds) ≡ None
  pub procedures : at.procedures + 1 < 2 ^ 32
  pub mains : at.mains + 1 < 2 ^ 32
  pub few : at.rules + (own_number n + at.procedures) + (main_number n + at.mains) + declarations_in (outline ds) < 2 ^ 32

pub fits_within : (d : Decl) (n : Name) (ds : List Decl) (body : CommandTree) (at : Survey) → d ≡ decl.Procedure n ds body → Stands d at → FitsWithin at n ds
fits_within d n ds body at e (seen, (os, (o, lt))) =
    let c = ap declarations_in (ap (λ y. declared y os) e ∙ declared-Procedure n ds body os) in
    let one : own_number n + main_number n ≡ 1 = one_or_other (is_main n) in
    record { once = local_once d n ds body seen os e o; procedures = omega (arith, c, lt); mains = omega (arith, c, lt); few = omega (arith, c, lt, one) }

-- what is visible in the procedure, as levels
pub scope_pushed : (levels : List Scope) (level : Scope) (at : Survey) (n : Name) (os : Outline) → level ≡ entries at.rules (own_number n + at.procedures) os
    → scope_of (levels ++ level ∷ []) ≡ scope_within (scope_of levels) at.rules at.procedures n os
scope_pushed levels level at n os e =
    let p : own_number n + at.procedures ≡ at.procedures + own_number n = omega arith in
    fold-append (λ s l. l ++ s) [] levels (level ∷ []) ∙ ap (λ l. l ++ scope_of levels) e ∙ ap (λ q. entries at.rules q os ++ scope_of levels) p

told_both : {A : Type 0} (f : A → Option Name) (xs ys : List A) → first_told f (xs ++ ys) ≡ option_or (first_told f xs) (first_told f ys)
told_both f [] ys = refl
told_both f (x ∷ xs) ys = ap (option_or (f x)) (told_both f xs ys) ∙ sym (told_together (f x) (first_told f xs) (first_told f ys))

pub rule_tells : (d : Decl) (x : RuleDecl) (s : Scope) (r p : ℕ) → d ≡ decl.Rule x → TellsUnknown d s r p None
rule_tells d x s r p e = λ k c os.
    let n = rule_counts d x k e c in
    let a : r + 1 ≡ r + k.rules = omega (arith, n.0) in
    let b : p ≡ p + k.procedures = omega (arith, n.1) in
    ap (λ o. first_told unknown_of (bodies_in_text s r p o)) (ap (λ y. declared y os) e ∙ declared-Rule x os) ∙ ap (λ i. first_told unknown_of (bodies_in_text s i p os)) a ∙ ap (λ i. first_told unknown_of (bodies_in_text s (r + k.rules) i os)) b

pub procedure_tells : (d : Decl) (n : Name) (ds : List Decl) (body : CommandTree) (s : Scope) (r p : ℕ) (found : Option Name) → d ≡ decl.Procedure n ds body
    → found ≡ option_or (first_told unknown_of (bodies_in_text (scope_within s r p n (outline ds)) r (p + own_number n) (outline ds))) (unknown_in (scope_within s r p n (outline ds)) (named body))
    → TellsUnknown d s r p found
procedure_tells d n ds body s r p found e f = λ k c os.
    let m = procedure_counts d n ds body k e c in
    let a : r + length (rules_in (outline ds)) ≡ r + k.rules = omega (arith, m.0) in
    let b : p + own_number n + procedures_in (outline ds) ≡ p + k.procedures = omega (arith, m.1) in
    let within = scope_within s r p n (outline ds) in
    let inner = bodies_in_text within r (p + own_number n) (outline ds) in
    let own : Body = record { name = n; scope = within; command = named body } in
    let tell : ℕ → ℕ → Option Name = λ i j. first_told unknown_of (inner ++ own ∷ bodies_in_text s i j os) in
    ap (λ o. first_told unknown_of (bodies_in_text s r p o)) (ap (λ y. declared y os) e ∙ declared-Procedure n ds body os)
    ∙ ap (λ i. tell i (p + own_number n + procedures_in (outline ds))) a ∙ ap (tell (r + k.rules)) b
    ∙ told_both unknown_of inner (own ∷ bodies_in_text s (r + k.rules) (p + k.procedures) os)
    ∙ sym (told_together (first_told unknown_of inner) (unknown_of own) (first_told unknown_of (bodies_in_text s (r + k.rules) (p + k.procedures) os)))
    ∙ ap (λ o. option_or o (first_told unknown_of (bodies_in_text s (r + k.rules) (p + k.procedures) os))) (sym f)

pub pushed_scope : (at within : Survey) (n : Name) (ds held : List Decl) (old pushed : List Scope) (level : Scope) → within ≡ one_more_counted at n → held ≡ ds
    → level ≡ entries within.rules within.procedures (outline held) → pushed ≡ old ++ level ∷ [] → scope_of pushed ≡ scope_within (scope_of old) at.rules at.procedures n (outline ds)
pushed_scope at within n ds held old pushed level w h l p =
    ap scope_of p ∙ scope_pushed old level at n (outline ds) (l ∙ ap (λ (s : Survey). entries s.rules s.procedures (outline held)) w ∙ ap (λ x. entries at.rules (own_number n + at.procedures) (outline x)) h)

pub inner_told : (at within : Survey) (n : Name) (ds held : List Decl) (s scope : Scope) (o : Option Name) → within ≡ one_more_counted at n → held ≡ ds → s ≡ scope
    → o ≡ first_told unknown_of (bodies_in_text s within.rules within.procedures (outline held)) → o ≡ first_told unknown_of (bodies_in_text scope at.rules (at.procedures + own_number n) (outline ds))
inner_told at within n ds held s scope o w h e t =
    let p : own_number n + at.procedures ≡ at.procedures + own_number n = omega arith in
    t ∙ ap (λ x. first_told unknown_of (bodies_in_text x within.rules within.procedures (outline held))) e ∙ ap (λ (v : Survey). first_told unknown_of (bodies_in_text scope v.rules v.procedures (outline held))) w
    ∙ ap (λ x. first_told unknown_of (bodies_in_text scope at.rules (own_number n + at.procedures) (outline x))) h ∙ ap (λ q. first_told unknown_of (bodies_in_text scope at.rules q (outline ds))) p

-- ---- numbering

pub numbers_both : (d : Numbered) (xs ys : List Body) → with_bodies d (xs ++ ys) ≡ with_bodies (with_bodies d xs) ys
numbers_both d [] ys = refl
numbers_both d (x ∷ xs) ys = numbers_both (with_body d x) xs ys

pub rule_numbers : (d : Decl) (x : RuleDecl) (s : Scope) (r p : ℕ) (done : Numbered) → d ≡ decl.Rule x → Numbers d s r p done done
rule_numbers d x s r p done e = λ k c os.
    let n = rule_counts d x k e c in
    let a : r + 1 ≡ r + k.rules = omega (arith, n.0) in
    let b : p ≡ p + k.procedures = omega (arith, n.1) in
    sym (ap (λ o. with_bodies done (bodies s r p o)) (ap (λ y. declared y os) e ∙ declared-Rule x os) ∙ ap (λ i. with_bodies done (bodies s i p os)) a ∙ ap (λ i. with_bodies done (bodies s (r + k.rules) i os)) b)

pub procedure_numbers : (d : Decl) (n : Name) (ds : List Decl) (body : CommandTree) (s scope : Scope) (r p : ℕ) (old own new : Numbered) → d ≡ decl.Procedure n ds body → scope ≡ scope_within s r p n (outline ds)
    → own ≡ with_body old (record { name = n; scope = scope; command = named body }) → new ≡ with_bodies own (bodies (scope_within s r p n (outline ds)) r (p + own_number n) (outline ds)) → Numbers d s r p old new
procedure_numbers d n ds body s scope r p old own new e v o w = λ k c os.
    let m = procedure_counts d n ds body k e c in
    let a : r + length (rules_in (outline ds)) ≡ r + k.rules = omega (arith, m.0) in
    let b : p + own_number n + procedures_in (outline ds) ≡ p + k.procedures = omega (arith, m.1) in
    let within = scope_within s r p n (outline ds) in
    let inner = bodies within r (p + own_number n) (outline ds) in
    let here : Scope → Body = λ x. record { name = n; scope = x; command = named body } in
    let behind : ℕ → ℕ → Numbered = λ i j. with_bodies (with_body old (here within)) (inner ++ bodies s i j os) in
    let rest = bodies s (r + k.rules) (p + k.procedures) os in
    sym (ap (λ x. with_bodies old (bodies s r p x)) (ap (λ y. declared y os) e ∙ declared-Procedure n ds body os)
    ∙ ap (λ i. behind i (p + own_number n + procedures_in (outline ds))) a ∙ ap (behind (r + k.rules)) b
    ∙ numbers_both (with_body old (here within)) inner rest
    ∙ ap (λ x. with_bodies (with_bodies (with_body old (here x)) inner) rest) (sym v) ∙ ap (λ x. with_bodies (with_bodies x inner) rest) (sym o) ∙ ap (λ x. with_bodies x rest) (sym w))

pub inner_numbered : (at within : Survey) (n : Name) (ds held : List Decl) (s scope : Scope) (old new : Numbered) → within ≡ one_more_counted at n → held ≡ ds → s ≡ scope
    → new ≡ with_bodies old (bodies s within.rules within.procedures (outline held)) → new ≡ with_bodies old (bodies scope at.rules (at.procedures + own_number n) (outline ds))
inner_numbered at within n ds held s scope old new w h e t =
    let p : own_number n + at.procedures ≡ at.procedures + own_number n = omega arith in
    t ∙ ap (λ x. with_bodies old (bodies x within.rules within.procedures (outline held))) e ∙ ap (λ (v : Survey). with_bodies old (bodies scope v.rules v.procedures (outline held))) w
    ∙ ap (λ x. with_bodies old (bodies scope at.rules (own_number n + at.procedures) (outline x))) h ∙ ap (λ q. with_bodies old (bodies scope at.rules q (outline ds))) p

-- few enough, whichever way they are held
pub few_within : (at within : Survey) (n : Name) (ds held : List Decl) → within ≡ one_more_counted at n → held ≡ ds → at.rules + (own_number n + at.procedures) + (main_number n + at.mains) + declarations_in (outline ds) < 2 ^ 32
    → within.rules + within.procedures + within.mains + declarations_in (outline held) < 2 ^ 32
few_within at within n ds held e h lt = subst (λ (s : Survey). s.rules + s.procedures + s.mains + declarations_in (outline held) < 2 ^ 32) (sym e) (subst (λ l. at.rules + (own_number n + at.procedures) + (main_number n + at.mains) + declarations_in (outline l) < 2 ^ 32) (sym h) lt)
