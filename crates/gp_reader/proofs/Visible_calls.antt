-- Commands with numbers call what is visible where the commands of the text call it.
use Rattle.std.proofs.Common.{◌≡◌, ℕ, ◌+◌, Bool, true, false, not, cond, List, [], ◌∷◌, ◌++◌, map, filter, flat_map, length, Option, Some, None, is_some, unwrap_or, slice_get, refl, ap, subst, arith, length-append}
use Rattle.std.specs.Option.{option_or}
use Rattle.std.proofs.lemmas.List.{length-map, map-append}
use Rattle.gp_values.specs.Names.{Name}
use Rattle.gp_scope.specs.declared.meaning.Meaning.{Meaning}
use Rattle.gp_scope.specs.declared.meaning.Meaning.TheVariants.{Rule, Procedure}
use Rattle.gp_scope.specs.Outline.{NamedCommand, Call, Named, Seq, If, Try, Loop, Or, Skip, Fail, Break, Outline, is_main}
use Rattle.gp_scope.specs.Names.{Scope, meaning_in, rule_of, procedure_of, entries, Body, all_bodies}
use Rattle.gp_scope.specs.Resolved.{called_sets, rule_number, resolved, sets_of, ResolvedBody, resolved_from, resolved_bodies, main_of, others}
use Rattle.gp_scope.specs.Fault.{unless, first_told, unknown_in}
use Rattle.gp_reader.specs.Places.{Place, meant_by, Placed, procedures_of, IsNumbered, EachTo, CallsVisible, of_set, of_procedure, in_seq, in_if, in_try, in_loop, in_or, of_skip, of_fail, of_break}
use Rattle.gp_reader.specs.ResolutionLaws.{StandsIn, ProgramsCallWhatIsVisible}
use Rattle.gp_reader.proofs.Rows.{From, whole, left_part, right_part, chosen, mapped}
use Rattle.gp_reader.proofs.Each.{Each}
use Rattle.gp_reader.proofs.Numbers.{both_none, IsKnown, bodies_known}
use Rattle.gp_reader.proofs.Programs.{none_unknown}
use Rattle.gp_reader.proofs.Visible.{numbers_are_places}

module _ (all : Outline) where
  rule_known : (n : Name) (o : Option Place) (m : Option Meaning) → unless (is_some (rule_of m)) n ≡ None → IsNumbered all o m → IsNumbered all o (Some (Rule (unwrap_or (rule_of m) 0)))
  rule_known n o (Some (Rule r)) e h = h
  rule_known n o (Some (Procedure p)) e h = cc
  rule_known n o None e h = cc

  procedure_known : (n : Name) (o : Option Place) (m : Option Meaning) → unless (is_some (procedure_of m)) n ≡ None → IsNumbered all o m → IsNumbered all o (Some (Procedure (unwrap_or (procedure_of m) 0)))
  procedure_known n o (Some (Rule r)) e h = cc
  procedure_known n o (Some (Procedure p)) e h = h
  procedure_known n o None e h = cc

  module _ (sets : List (List ℕ)) (s : Scope) (visible : List (Name × Place)) (means : (n : Name) → IsNumbered all (meant_by visible n) (meaning_in s n)) where
    abbrev Sets : ℕ → List (List Name) → Type 0
    Sets c called = From sets c (map (map (rule_number s)) called)

    names_mean : (names : List Name) → first_told (λ n. unless (is_some (rule_of (meaning_in s n))) n) names ≡ None → EachTo (λ n r. IsNumbered all (meant_by visible n) (Some (Rule r))) names (map (rule_number s) names)
    names_mean [] e = tt
    names_mean (n ∷ names) e =
        let k = both_none (unless (is_some (rule_of (meaning_in s n))) n) (first_told (λ n. unless (is_some (rule_of (meaning_in s n))) n) names) e in
        (rule_known n (meant_by visible n) (meaning_in s n) k.0 (means n), names_mean names k.1)

    first_sets : (xs ys : List (List Name)) (c : ℕ) → Sets c (xs ++ ys) → Sets c xs
    first_sets xs ys c h = left_part sets (map (map (rule_number s)) xs) (map (map (rule_number s)) ys) c (subst (From sets c) (map-append (map (rule_number s)) xs ys) h)

    other_sets : (xs ys : List (List Name)) (c : ℕ) → Sets c (xs ++ ys) → Sets (c + length xs) ys
    other_sets xs ys c h =
        let l = length-map xs (map (rule_number s)) in
        right_part sets (map (map (rule_number s)) xs) (map (map (rule_number s)) ys) c (c + length xs) (omega (arith, l)) (subst (From sets c) (map-append (map (rule_number s)) xs ys) h)

    pub calls_visible : (q : NamedCommand) (c : ℕ) → unknown_in s q ≡ None → Sets c (called_sets q) → CallsVisible all sets visible q (resolved s c q)
    calls_visible (Call names) c e h = of_set h.0 (names_mean names e)
    calls_visible (Named n) c e h = of_procedure (procedure_known n (meant_by visible n) (meaning_in s n) e (means n))
    calls_visible (Seq p q) c e h =
        let k = both_none (unknown_in s p) (unknown_in s q) e in
        in_seq (calls_visible p c k.0 (first_sets (called_sets p) (called_sets q) c h)) (calls_visible q (c + length (called_sets p)) k.1 (other_sets (called_sets p) (called_sets q) c h))
    calls_visible (If k p q) c e h =
        let a = both_none (unknown_in s k) (option_or (unknown_in s p) (unknown_in s q)) e in
        let b = both_none (unknown_in s p) (unknown_in s q) a.1 in
        let front = first_sets (called_sets k ++ called_sets p) (called_sets q) c h in
        let l = length-append (called_sets k) (called_sets p) in
        in_if (calls_visible k c a.0 (first_sets (called_sets k) (called_sets p) c front))
        (calls_visible p (c + length (called_sets k)) b.0 (other_sets (called_sets k) (called_sets p) c front))
        (calls_visible q (c + length (called_sets k) + length (called_sets p)) b.1 (subst (λ i. Sets i (called_sets q)) (omega (arith, l)) (other_sets (called_sets k ++ called_sets p) (called_sets q) c h)))
    calls_visible (Try k p q) c e h =
        let a = both_none (unknown_in s k) (option_or (unknown_in s p) (unknown_in s q)) e in
        let b = both_none (unknown_in s p) (unknown_in s q) a.1 in
        let front = first_sets (called_sets k ++ called_sets p) (called_sets q) c h in
        let l = length-append (called_sets k) (called_sets p) in
        in_try (calls_visible k c a.0 (first_sets (called_sets k) (called_sets p) c front))
        (calls_visible p (c + length (called_sets k)) b.0 (other_sets (called_sets k) (called_sets p) c front))
        (calls_visible q (c + length (called_sets k) + length (called_sets p)) b.1 (subst (λ i. Sets i (called_sets q)) (omega (arith, l)) (other_sets (called_sets k ++ called_sets p) (called_sets q) c h)))
    calls_visible (Loop p) c e h = in_loop (calls_visible p c e h)
    calls_visible (Or p q) c e h =
        let k = both_none (unknown_in s p) (unknown_in s q) e in
        in_or (calls_visible p c k.0 (first_sets (called_sets p) (called_sets q) c h)) (calls_visible q (c + length (called_sets p)) k.1 (other_sets (called_sets p) (called_sets q) c h))
    calls_visible Skip c e h = of_skip
    calls_visible Fail c e h = of_fail
    calls_visible Break c e h = of_break

  -- ---- bodies in a row

  abbrev mains : List Placed → List Placed
  mains vs = filter (λ (v : Placed). is_main v.name) vs

  module _ (sets : List (List ℕ)) where
    pub record Calls (r : ResolvedBody) (v : Placed) : Type 0 where
      pub name : is_main r.name ≡ is_main v.name
      pub command : CallsVisible all sets v.visible v.command r.command

    bodies_call : (c : ℕ) (bs : List Body) (vs : List Placed) → EachTo (StandsIn all) bs vs → Each IsKnown bs → From sets c (flat_map sets_of bs) → EachTo Calls (resolved_from c bs) vs
    bodies_call c [] [] u k h = tt
    bodies_call c [] (v ∷ vs) u k h = absurd u
    bodies_call c (b ∷ bs) [] u k h = absurd u
    bodies_call c (b ∷ bs) (v ∷ vs) u k h =
        let l = length-map (called_sets b.command) (map (rule_number b.scope)) in
        let own = calls_visible sets b.scope v.visible u.0.numbers b.command c k.0 (left_part sets (sets_of b) (flat_map sets_of bs) c h) in
        let rest = right_part sets (sets_of b) (flat_map sets_of bs) c (c + length (called_sets b.command)) (omega (arith, l)) h in (
          record { name = ap is_main u.0.name; command = subst (λ q. CallsVisible all sets v.visible q (resolved b.scope c b.command)) u.0.command own },
          bodies_call (c + length (called_sets b.command)) bs vs u.1 k.1 rest,
        )

    main_calls : (rs : List ResolvedBody) (vs : List Placed) → EachTo Calls rs vs → (v : Placed) → slice_get (mains vs) 0 ≡ Some v → CallsVisible all sets v.visible v.command (main_of rs)
    main_calls [] [] u v e = cc
    main_calls [] (w ∷ vs) u v e = absurd u
    main_calls (r ∷ rs) [] u v e = absurd u
    main_calls (r ∷ rs) (w ∷ vs) u v e = go (is_main r.name) (is_main w.name) refl u.0.name e (main_calls rs vs u.1 v)
      where
        go : (m k : Bool) → is_main r.name ≡ m → m ≡ k → slice_get (cond k (w ∷ mains vs) (mains vs)) 0 ≡ Some v → (slice_get (mains vs) 0 ≡ Some v → CallsVisible all sets v.visible v.command (main_of rs)) →
            CallsVisible all sets v.visible v.command (main_of (r ∷ rs))
        go true true a b f h = let g : w ≡ v = cc in rw (a) (subst (λ (x : Placed). CallsVisible all sets x.visible x.command r.command) g u.0.command)
        go false false a b f h = rw (a) (h f)
        go true false a b f h = cc
        go false true a b f h = cc

    beside_main : (r : ResolvedBody) (v : Placed) → Calls r v → not (is_main r.name) ≡ not (is_main v.name)
    beside_main r v h = ap not h.name

    others_call : (rs : List ResolvedBody) (vs : List Placed) → EachTo Calls rs vs → EachTo (λ c (v : Placed). CallsVisible all sets v.visible v.command c) (map (λ (r : ResolvedBody). r.command) (others rs)) (filter (λ (v : Placed). not (is_main v.name)) vs)
    others_call rs vs u =
        mapped (λ c (v : Placed). CallsVisible all sets v.visible v.command c) Calls (λ (r : ResolvedBody). r.command) (λ r v h. h.command) (others rs) (filter (λ (v : Placed). not (is_main v.name)) vs)
        (chosen Calls (λ (r : ResolvedBody). not (is_main r.name)) (λ (v : Placed). not (is_main v.name)) beside_main rs vs u)

pub programs_call : ProgramsCallWhatIsVisible
programs_call os rules names =
    let sets = flat_map sets_of (all_bodies os) in
    let u = bodies_call os sets 0 (all_bodies os) (procedures_of os) (numbers_are_places os) (bodies_known os (entries 0 0 os) 0 0 (none_unknown os names)) (whole sets) in
    record { main = main_calls os sets (resolved_bodies os) (procedures_of os) u; procedures = others_call os sets (resolved_bodies os) (procedures_of os) u }
