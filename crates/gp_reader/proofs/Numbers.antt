-- Where no name is unknown, the numbers in bodies are those of rules, procedures and sets that are there.
use Rattle.std.proofs.Common.{◌≡◌, ℕ, ◌+◌, ◌<◌, ◌≤◌, Bool, true, false, cond, List, [], ◌∷◌, ◌++◌, map, length, Option, Some, None, is_some, unwrap_or, refl, ap, ◌∙◌, subst, arith, length-append}
use Rattle.std.specs.Option.{option_or}
use Rattle.gp_values.specs.Names.{Name, same_name}
use Rattle.gp_syntax.specs.Scoped.{calls_in}
use Rattle.gp_syntax.specs.Scoped as there
use Rattle.gp_scope.specs.declared.meaning.Meaning.{Meaning}
use Rattle.gp_scope.specs.declared.meaning.Meaning.TheVariants.{Rule, Procedure}
use Rattle.gp_scope.specs.Outline.{NamedCommand, Call, Named, Seq, If, Try, Loop, Or, Skip, Fail, Break, Outline, nothing, rule, procedure, is_main, own_number, rules_in, procedures_in}
use Rattle.gp_scope.specs.Names.{Scope, meaning_in, rule_of, procedure_of, entries, Body, scope_within, bodies, bodies_in_text}
use Rattle.gp_scope.specs.Resolved.{called_sets, rule_number, resolved}
use Rattle.gp_scope.specs.Fault.{unless, first_told, unknown_in}
use Rattle.gp_reader.proofs.Each.{Each, each_both}

-- ---- what names mean

abbrev pub IsBelow : ℕ → ℕ → Meaning → Type 0
IsBelow rs ps (Rule r) = r < rs
IsBelow rs ps (Procedure p) = p < ps

abbrev pub Fits : ℕ → ℕ → Scope → Type 0
Fits rs ps s = Each (λ (x : Name × Meaning). IsBelow rs ps x.1) s

module _ (rs ps : ℕ) where
  one_of_two : (b : Bool) (x m : Meaning) (rest : Option Meaning) → IsBelow rs ps x → (rest ≡ Some m → IsBelow rs ps m) → cond b (Some x) rest ≡ Some m → IsBelow rs ps m
  one_of_two true x m rest h f e = let g : x ≡ m = cc in subst (IsBelow rs ps) g h
  one_of_two false x m rest h f e = f e

  pub meaning_fits : (s : Scope) (n : Name) (m : Meaning) → Fits rs ps s → meaning_in s n ≡ Some m → IsBelow rs ps m
  meaning_fits [] n m u e = cc
  meaning_fits (x ∷ s) n m u e = one_of_two (same_name n x.0) x.1 m (meaning_in s n) u.0 (meaning_fits s n m u.1) e

  own_fits : (m : Bool) (n : Name) (p : ℕ) → p + cond m 0 1 ≤ ps → Fits rs ps (cond m [] ((n, Procedure p) ∷ []))
  own_fits true n p le = tt
  own_fits false n p le = (omega (arith, le), tt)

  pub entries_fit : (os : Outline) (r p : ℕ) → r + length (rules_in os) ≤ rs → p + procedures_in os ≤ ps → Fits rs ps (entries r p os)
  entries_fit nothing r p a b = tt
  entries_fit (rule d os) r p a b = (omega (arith, a), entries_fit os (r + 1) p (omega (arith, a)) b)
  entries_fit (procedure n local body os) r p a b =
      let l = length-append (rules_in local) (rules_in os) in
      each_both (λ (x : Name × Meaning). IsBelow rs ps x.1) (cond (is_main n) [] ((n, Procedure p) ∷ [])) (entries (r + length (rules_in local)) (p + own_number n + procedures_in local) os)
      (own_fits (is_main n) n p (omega (arith, b)))
      (entries_fit os (r + length (rules_in local)) (p + own_number n + procedures_in local) (omega (arith, a, l)) (omega (arith, b)))

  abbrev pub BodyFits : Body → Type 0
  BodyFits b = Fits rs ps b.scope

  pub bodies_fit : (os : Outline) (s : Scope) (r p : ℕ) → Fits rs ps s → r + length (rules_in os) ≤ rs → p + procedures_in os ≤ ps → Each BodyFits (bodies s r p os)
  bodies_fit nothing s r p u a b = tt
  bodies_fit (rule d os) s r p u a b = bodies_fit os s (r + 1) p u (omega (arith, a)) b
  bodies_fit (procedure n local body os) s r p u a b =
      let l = length-append (rules_in local) (rules_in os) in
      let w : Fits rs ps (scope_within s r p n local) = each_both (λ (x : Name × Meaning). IsBelow rs ps x.1) (entries r (p + own_number n) local) s (entries_fit local r (p + own_number n) (omega (arith, a, l)) (omega (arith, b))) u in (
        w,
        each_both BodyFits (bodies (scope_within s r p n local) r (p + own_number n) local) (bodies s (r + length (rules_in local)) (p + own_number n + procedures_in local) os)
            (bodies_fit local (scope_within s r p n local) r (p + own_number n) w (omega (arith, a, l)) (omega (arith, b)))
            (bodies_fit os s (r + length (rules_in local)) (p + own_number n + procedures_in local) u (omega (arith, a, l)) (omega (arith, b))),
      )

-- ---- what is known

pub both_none : (a b : Option Name) → option_or a b ≡ None → (a ≡ None) × (b ≡ None)
both_none (Some x) b e = cc
both_none None b e = (refl, e)

none_told : {A : Type 0} (f : A → Option Name) (xs ys : List A) → first_told f (xs ++ ys) ≡ None → (first_told f xs ≡ None) × (first_told f ys ≡ None)
none_told f [] ys e = (refl, e)
none_told f (x ∷ xs) ys e =
    let h = both_none (f x) (first_told f (xs ++ ys)) e in
    let t = none_told f xs ys h.1 in
    (ap (λ o. option_or o (first_told f xs)) h.0 ∙ t.0, t.1)

abbrev pub IsKnown : Body → Type 0
IsKnown b = unknown_in b.scope b.command ≡ None

pub bodies_known : (os : Outline) (s : Scope) (r p : ℕ) → first_told (λ (b : Body). unknown_in b.scope b.command) (bodies_in_text s r p os) ≡ None → Each IsKnown (bodies s r p os)
bodies_known nothing s r p e = tt
bodies_known (rule d os) s r p e = bodies_known os s (r + 1) p e
bodies_known (procedure n local body os) s r p e =
    let w = scope_within s r p n local in
    let b : Body = record { name = n; scope = w; command = body } in
    let rest = bodies_in_text s (r + length (rules_in local)) (p + own_number n + procedures_in local) os in
    let h = none_told (λ (b : Body). unknown_in b.scope b.command) (bodies_in_text w r (p + own_number n) local) (b ∷ rest) e in
    let g = both_none (unknown_in w body) (first_told (λ (b : Body). unknown_in b.scope b.command) rest) h.1 in (
      g.0,
      each_both IsKnown (bodies w r (p + own_number n) local) (bodies s (r + length (rules_in local)) (p + own_number n + procedures_in local) os)
          (bodies_known local w r (p + own_number n) h.0)
          (bodies_known os s (r + length (rules_in local)) (p + own_number n + procedures_in local) g.1),
    )

-- ---- the numbers in a body

module _ (rs ps : ℕ) (s : Scope) (u : Fits rs ps s) where
  procedure_fits : (o : Option Meaning) (n : Name) → ((m : Meaning) → o ≡ Some m → IsBelow rs ps m) → unless (is_some (procedure_of o)) n ≡ None → unwrap_or (procedure_of o) 0 < ps
  procedure_fits None n f e = cc
  procedure_fits (Some (Rule r)) n f e = cc
  procedure_fits (Some (Procedure p)) n f e = f (Procedure p) refl

  rule_fits : (o : Option Meaning) (n : Name) → ((m : Meaning) → o ≡ Some m → IsBelow rs ps m) → unless (is_some (rule_of o)) n ≡ None → unwrap_or (rule_of o) 0 < rs
  rule_fits None n f e = cc
  rule_fits (Some (Procedure p)) n f e = cc
  rule_fits (Some (Rule r)) n f e = f (Rule r) refl

  abbrev Low : List ℕ → Type 0
  Low ks = Each (λ k. k < ps) ks

  pub procedures_fit : (q : NamedCommand) (c : ℕ) → unknown_in s q ≡ None → Each (λ k. k < ps) (there.procedures_in (resolved s c q))
  procedures_fit (Call names) c e = tt
  procedures_fit (Named n) c e = (procedure_fits (meaning_in s n) n (λ m h. meaning_fits rs ps s n m u h) e, tt)
  procedures_fit (Seq p q) c e =
      let h = both_none (unknown_in s p) (unknown_in s q) e in
      each_both (λ k. k < ps) _ _ (procedures_fit p c h.0) (procedures_fit q (c + length (called_sets p)) h.1)
  procedures_fit (If k p q) c e =
      let h = both_none (unknown_in s k) (option_or (unknown_in s p) (unknown_in s q)) e in
      let g = both_none (unknown_in s p) (unknown_in s q) h.1 in
      each_both (λ k. k < ps) _ _ (each_both (λ k. k < ps) _ _ (procedures_fit k c h.0) (procedures_fit p (c + length (called_sets k)) g.0)) (procedures_fit q (c + length (called_sets k) + length (called_sets p)) g.1)
  procedures_fit (Try k p q) c e =
      let h = both_none (unknown_in s k) (option_or (unknown_in s p) (unknown_in s q)) e in
      let g = both_none (unknown_in s p) (unknown_in s q) h.1 in
      each_both (λ k. k < ps) _ _ (each_both (λ k. k < ps) _ _ (procedures_fit k c h.0) (procedures_fit p (c + length (called_sets k)) g.0)) (procedures_fit q (c + length (called_sets k) + length (called_sets p)) g.1)
  procedures_fit (Loop p) c e = procedures_fit p c e
  procedures_fit (Or p q) c e =
      let h = both_none (unknown_in s p) (unknown_in s q) e in
      each_both (λ k. k < ps) _ _ (procedures_fit p c h.0) (procedures_fit q (c + length (called_sets p)) h.1)
  procedures_fit Skip c e = tt
  procedures_fit Fail c e = tt
  procedures_fit Break c e = tt

  set_fits : (names : List Name) → first_told (λ n. unless (is_some (rule_of (meaning_in s n))) n) names ≡ None → Each (λ r. r < rs) (map (rule_number s) names)
  set_fits [] e = tt
  set_fits (n ∷ names) e =
      let h = both_none (unless (is_some (rule_of (meaning_in s n))) n) (first_told (λ n. unless (is_some (rule_of (meaning_in s n))) n) names) e in
      (rule_fits (meaning_in s n) n (λ m g. meaning_fits rs ps s n m u g) h.0, set_fits names h.1)

  abbrev SetFits : List Name → Type 0
  SetFits names = Each (λ r. r < rs) (map (rule_number s) names)

  pub sets_fit : (q : NamedCommand) → unknown_in s q ≡ None → Each (λ names. Each (λ r. r < rs) (map (rule_number s) names)) (called_sets q)
  sets_fit (Call names) e = (set_fits names e, tt)
  sets_fit (Named n) e = tt
  sets_fit (Seq p q) e =
      let h = both_none (unknown_in s p) (unknown_in s q) e in
      each_both SetFits (called_sets p) (called_sets q) (sets_fit p h.0) (sets_fit q h.1)
  sets_fit (If k p q) e =
      let h = both_none (unknown_in s k) (option_or (unknown_in s p) (unknown_in s q)) e in
      let g = both_none (unknown_in s p) (unknown_in s q) h.1 in
      each_both SetFits (called_sets k ++ called_sets p) (called_sets q) (each_both SetFits (called_sets k) (called_sets p) (sets_fit k h.0) (sets_fit p g.0)) (sets_fit q g.1)
  sets_fit (Try k p q) e =
      let h = both_none (unknown_in s k) (option_or (unknown_in s p) (unknown_in s q)) e in
      let g = both_none (unknown_in s p) (unknown_in s q) h.1 in
      each_both SetFits (called_sets k ++ called_sets p) (called_sets q) (each_both SetFits (called_sets k) (called_sets p) (sets_fit k h.0) (sets_fit p g.0)) (sets_fit q g.1)
  sets_fit (Loop p) e = sets_fit p e
  sets_fit (Or p q) e =
      let h = both_none (unknown_in s p) (unknown_in s q) e in
      each_both SetFits (called_sets p) (called_sets q) (sets_fit p h.0) (sets_fit q h.1)
  sets_fit Skip e = tt
  sets_fit Fail e = tt
  sets_fit Break e = tt

module _ (s : Scope) (all : ℕ) where
  pub calls_fit : (q : NamedCommand) (c : ℕ) → c + length (called_sets q) ≤ all → Each (λ k. k < all) (calls_in (resolved s c q))
  calls_fit (Call names) c le = (omega (arith, le), tt)
  calls_fit (Named n) c le = tt
  calls_fit (Seq p q) c le =
      let l = length-append (called_sets p) (called_sets q) in
      each_both (λ k. k < all) _ _ (calls_fit p c (omega (arith, le, l))) (calls_fit q (c + length (called_sets p)) (omega (arith, le, l)))
  calls_fit (If k p q) c le =
      let l = length-append (called_sets k ++ called_sets p) (called_sets q) in
      let m = length-append (called_sets k) (called_sets p) in
      each_both (λ k. k < all) _ _ (each_both (λ k. k < all) _ _ (calls_fit k c (omega (arith, le, l, m))) (calls_fit p (c + length (called_sets k)) (omega (arith, le, l, m)))) (calls_fit q (c + length (called_sets k) + length (called_sets p)) (omega (arith, le, l, m)))
  calls_fit (Try k p q) c le =
      let l = length-append (called_sets k ++ called_sets p) (called_sets q) in
      let m = length-append (called_sets k) (called_sets p) in
      each_both (λ k. k < all) _ _ (each_both (λ k. k < all) _ _ (calls_fit k c (omega (arith, le, l, m))) (calls_fit p (c + length (called_sets k)) (omega (arith, le, l, m)))) (calls_fit q (c + length (called_sets k) + length (called_sets p)) (omega (arith, le, l, m)))
  calls_fit (Loop p) c le = calls_fit p c le
  calls_fit (Or p q) c le =
      let l = length-append (called_sets p) (called_sets q) in
      each_both (λ k. k < all) _ _ (calls_fit p c (omega (arith, le, l))) (calls_fit q (c + length (called_sets p)) (omega (arith, le, l)))
  calls_fit Skip c le = tt
  calls_fit Fail c le = tt
  calls_fit Break c le = tt
