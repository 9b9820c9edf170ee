-- The numbers of a program whose names are in order.
use Rattle.std.proofs.Common.{◌≡◌, ℕ, zero, suc, ◌+◌, ◌<◌, ◌≤◌, nat_lt, Bool, true, false, not, cond, List, [], ◌∷◌, map, flat_map, length, Option, Some, None, option_map, refl, arith, length-append}
use Rattle.std.specs.Option.{option_or}
use Rattle.std.proofs.lemmas.List.{length-map}
use Rattle.gp_values.specs.Names.{Name}
use Rattle.gp_syntax.specs.Run as meant
use Rattle.gp_syntax.specs.Scoped.{calls_in}
use Rattle.gp_syntax.specs.Scoped as there
use Rattle.gp_reader.specs.inside.Procedures.{Called, InRange}
use Rattle.gp_scope.specs.Outline.{Outline, nothing, rule, procedure, is_main, own_number, rules_in, procedures_in}
use Rattle.gp_scope.specs.Names.{Body, entries, all_bodies}
use Rattle.gp_scope.specs.Resolved.{ResolvedBody, called_sets, rule_number, resolved_from, resolved_bodies, others, main_of, sets_of}
use Rattle.gp_scope.specs.Surveys.{declarations_in}
use Rattle.gp_scope.specs.Fault.{NoMain, TwoMains, TwoRules, Unknown, declares_main, mains_in, doubled_behind, unknown_name, fault_of_names}
use Rattle.gp_reader.proofs.Each.{Each, each_of_map, each_of_all, each_of_some, each_contained}
use Rattle.gp_reader.proofs.Chains.{callees_in}
use Rattle.gp_reader.proofs.Named.{how_many_procedures}
use Rattle.gp_reader.proofs.Numbers.{BodyFits, IsKnown, bodies_fit, bodies_known, entries_fit, procedures_fit, sets_fit, calls_fit}

-- ---- bodies in a row

abbrev HasLow : ℕ → ResolvedBody → Type 0
HasLow ps r = Each (λ k. k < ps) (there.procedures_in r.command)

low_procedures : (rs ps c : ℕ) (bs : List Body) → Each (BodyFits rs ps) bs → Each IsKnown bs → Each (HasLow ps) (resolved_from c bs)
low_procedures rs ps c [] u k = tt
low_procedures rs ps c (b ∷ bs) u k = (procedures_fit rs ps b.scope u.0 b.command c k.0, low_procedures rs ps (c + length (called_sets b.command)) bs u.1 k.1)

low_sets : (rs ps : ℕ) (bs : List Body) → Each (BodyFits rs ps) bs → Each IsKnown bs → Each (λ (b : Body). Each (λ set. Each (λ r. r < rs) set) (sets_of b)) bs
low_sets rs ps [] u k = tt
low_sets rs ps (b ∷ bs) u k = (each_of_map (λ set. Each (λ r. r < rs) set) (map (rule_number b.scope)) (called_sets b.command) (sets_fit rs ps b.scope u.0 b.command k.0), low_sets rs ps bs u.1 k.1)

abbrev HasLowCalls : ℕ → ResolvedBody → Type 0
HasLowCalls all r = Each (λ k. k < all) (calls_in r.command)

low_calls : (all c : ℕ) (bs : List Body) → c + length (flat_map sets_of bs) ≤ all → Each (HasLowCalls all) (resolved_from c bs)
low_calls all c [] le = tt
low_calls all c (b ∷ bs) le =
    let l = length-append (sets_of b) (flat_map sets_of bs) in
    let m = length-map (called_sets b.command) (map (rule_number b.scope)) in
    (calls_fit b.scope all b.command c (omega (arith, le, l, m)), low_calls all (c + length (called_sets b.command)) bs (omega (arith, le, l, m)))

-- ---- Main and the others

main_is : (Q : meant.Command → Type 0) (rs : List ResolvedBody) → Q meant.Skip → Each (λ (r : ResolvedBody). Q r.command) rs → Q (main_of rs)
main_is Q [] skip u = skip
main_is Q (r ∷ rs) skip u = go (is_main r.name) refl (main_is Q rs skip u.1)
  where
    go : (m : Bool) → is_main r.name ≡ m → Q (main_of rs) → Q (main_of (r ∷ rs))
    go true h q = rw (h) u.0
    go false h q = rw (h) q

pub all_commands : (Q : meant.Command → Type 0) (rs : List ResolvedBody) → Q meant.Skip → Each (λ (r : ResolvedBody). Q r.command) rs → Each Q (main_of rs ∷ map (λ (r : ResolvedBody). r.command) (others rs))
all_commands Q rs skip u = (main_is Q rs skip u, each_of_map Q (λ (r : ResolvedBody). r.command) (others rs) (each_of_some (λ (r : ResolvedBody). Q r.command) (λ (r : ResolvedBody). not (is_main r.name)) rs u))

-- ---- how many there are

one_or_none : (m : Bool) → cond m 0 1 ≤ 1
one_or_none true = omega arith
one_or_none false = omega arith

procedures_declared : (os : Outline) → procedures_in os ≤ declarations_in os
procedures_declared nothing = omega arith
procedures_declared (rule d os) = let a = procedures_declared os in omega (arith, a)
procedures_declared (procedure n local body os) =
    let a = procedures_declared local in let b = procedures_declared os in let o : own_number n ≤ 1 = one_or_none (is_main n) in omega (arith, a, b, o)

pub few_called : (os : Outline) (most : ℕ) → declarations_in os < most → length (callees_in (map (λ (r : ResolvedBody). r.command) (others (resolved_bodies os)))) < most
few_called os most few =
    let a = procedures_declared os in
    let b = how_many_procedures os in
    let c = length-map (map (λ (r : ResolvedBody). r.command) (others (resolved_bodies os))) there.procedures_in in
    omega (arith, a, b, c, few)

-- ---- a text whose names are in order

pub none_unknown : (os : Outline) → fault_of_names os ≡ None → unknown_name os ≡ None
unfolding fault_of_names
none_unknown os e = go (declares_main os) (nat_lt 1 (mains_in os)) (doubled_behind [] os) (unknown_name os) e
  where
    go : (m t : Bool) (d u : Option Name) → cond (not m) (Some NoMain) (cond t (Some TwoMains) (option_or (option_map TwoRules d) (option_map Unknown u))) ≡ None → u ≡ None
    go false t d u h = cc
    go true true d u h = cc
    go true false (Some n) u h = cc
    go true false None (Some n) h = cc
    go true false None None h = refl

module _ (os : Outline) (names : fault_of_names os ≡ None) where
  abbrev ps : ℕ
  ps = procedures_in os

  abbrev rs : ℕ
  rs = length (rules_in os)

  fit : Each (BodyFits rs ps) (all_bodies os)
  fit = bodies_fit rs ps os (entries 0 0 os) 0 0 (entries_fit rs ps os 0 0 (omega arith) (omega arith)) (omega arith) (omega arith)

  known : Each IsKnown (all_bodies os)
  known = bodies_known os (entries 0 0 os) 0 0 (none_unknown os names)

  pub procedures_low : Each (λ c. Each (λ k. k < ps) (there.procedures_in c)) (main_of (resolved_bodies os) ∷ map (λ (r : ResolvedBody). r.command) (others (resolved_bodies os)))
  procedures_low = all_commands (λ c. Each (λ k. k < ps) (there.procedures_in c)) (resolved_bodies os) tt (low_procedures rs ps 0 (all_bodies os) fit known)

  pub calls_low : Each (λ c. Each (λ k. k < length (flat_map sets_of (all_bodies os))) (calls_in c)) (main_of (resolved_bodies os) ∷ map (λ (r : ResolvedBody). r.command) (others (resolved_bodies os)))
  calls_low = all_commands (λ c. Each (λ k. k < length (flat_map sets_of (all_bodies os))) (calls_in c)) (resolved_bodies os) tt (low_calls (length (flat_map sets_of (all_bodies os))) 0 (all_bodies os) (omega arith))

  pub rules_low : Each (λ set. Each (λ r. r < rs) set) (flat_map sets_of (all_bodies os))
  rules_low = each_of_all (λ set. Each (λ r. r < rs) set) sets_of (all_bodies os) (low_sets rs ps (all_bodies os) fit known)

  called_low : (j k : ℕ) → Called (callees_in (map (λ (r : ResolvedBody). r.command) (others (resolved_bodies os)))) j k → k < ps
  called_low j k h = go (map (λ (r : ResolvedBody). r.command) (others (resolved_bodies os))) j procedures_low.1 h
    where
      go : (cs : List meant.Command) (j : ℕ) → Each (λ c. Each (λ k. k < ps) (there.procedures_in c)) cs → Called (callees_in cs) j k → k < ps
      go [] j u h = absurd (omega (arith, h.1))
      go (c ∷ cs) zero u h = each_contained (λ k. k < ps) (there.procedures_in c) k u.0 h
      go (c ∷ cs) (suc j) u h = go cs j u.1 h

  pub in_range : InRange (callees_in (map (λ (r : ResolvedBody). r.command) (others (resolved_bodies os))))
  in_range j k h =
      let l = called_low j k h in
      let a = length-map (map (λ (r : ResolvedBody). r.command) (others (resolved_bodies os))) there.procedures_in in
      let b = how_many_procedures os in
      omega (arith, l, a, b)
