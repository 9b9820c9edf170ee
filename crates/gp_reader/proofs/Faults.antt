-- Faults of names and calls: there is one at most, and where there is none, the text stands for a program.
use Rattle.std.proofs.Common.{◌≡◌, ◌⊎◌, inl, inr, ℕ, zero, suc, ◌+◌, ◌<◌, ◌≤◌, Bool, List, [], ◌∷◌, map, flat_map, length, slice_get, Option, Some, None, refl, sym, ap, ◌∙◌, subst, arith}
use Rattle.std.proofs.lemmas.List.{length-map}
use Rattle.gp_memory.proofs.Basics.{some_at as element}
use Rattle.gp_values.specs.Names.{Name}
use Rattle.gp_syntax.specs.Rule as meant_rule
use Rattle.gp_syntax.specs.Run as meant
use Rattle.gp_syntax.specs.Tree.{command_of}
use Rattle.gp_syntax.specs.Scoped.{IsScoped, IsChain, MayBreak, ReachesProcedure, bodies, conditions_in}
use Rattle.gp_syntax.specs.Scoped as there
use Rattle.gp_reader.specs.inside.Procedures.{ReachesIn, IsFirstIn, IsMarked, HasChain, MarksChains, Strays}
use Rattle.gp_reader.proofs.Visits.{marked_within}
use Rattle.gp_scope.specs.Outline.{Outline, rules_in}
use Rattle.gp_scope.specs.Names.{all_bodies}
use Rattle.gp_scope.specs.Resolved.{ResolvedBody, resolved_bodies, others, main_of, sets_of, program_with}
use Rattle.gp_scope.specs.Fault.{Fault, Recursive, DeepCalls, StrayBreak, fault_of_names, calls_of, IsFirst, IsNameOf, IsRecursive, IsDeep, HasStrayBreak, IsFault, of_names, recursive, deep_calls, stray_break}
use Rattle.gp_reader.specs.declared.scoped.ScopedParts.{ScopedParts}
use Rattle.gp_reader.specs.Resolution.{IsFaultless, IsResolved, program_of, IsAlwaysScoped}
use Rattle.gp_reader.specs.ResolutionLaws.{OneFault, ProgramsHaveNoFault}
use Rattle.gp_reader.specs.inside.Named.{procedure_names}
use Rattle.gp_reader.proofs.Each.{each_contained}
use Rattle.gp_reader.proofs.Chains.{callees_in, callees, calls_from, reached, reaches, deep_chain, chain_deep, goes_on, reach_from}
use Rattle.gp_reader.proofs.Strays_in_programs.{strays_in, strays_of}
use Rattle.gp_reader.proofs.Named.{names_listed, how_many_names, how_many_procedures}
use Rattle.gp_reader.proofs.Programs.{procedures_low, calls_low, rules_low}

-- ---- one fault at most

neither : {A : Type 0} (o : Option A) (x : A) → o ≡ None → o ≡ Some x → ⊥
neither None x e f = cc
neither (Some y) x e f = cc

same_some : {A : Type 0} (o : Option A) (x y : A) → o ≡ Some x → o ≡ Some y → x ≡ y
same_some None x y e f = cc
same_some (Some z) x y e f = cc

order : (j k : ℕ) → (j < k) ⊎ ((j ≡ k) ⊎ (k < j))
order zero zero = inr (inl refl)
order zero (suc k) = inl (omega arith)
order (suc j) zero = inr (inr (omega arith))
order (suc j) (suc k) = elim (order j k) [ inl l ↦ inl (omega (arith, l)) | inr (inl e) ↦ inr (inl (ap suc e)) | inr (inr g) ↦ inr (inr (omega (arith, g))) ]

one_first : (P : ℕ → Type 0) (j k : ℕ) → IsFirst P j → IsFirst P k → j ≡ k
one_first P j k a b = elim (order j k) [ inl l ↦ absurd (b.none_before j l a.holds) | inr (inl e) ↦ e | inr (inr g) ↦ absurd (a.none_before k g b.holds) ]

one_name : (os : Outline) (j k : ℕ) (n m : Name) → j ≡ k → IsNameOf os j n → IsNameOf os k m → n ≡ m
one_name os j k n m e a b = same_some _ n m (subst (λ i. IsNameOf os i n) e a) b

pub one_fault : OneFault
one_fault os x y (of_names e) (of_names f) = same_some (fault_of_names os) x y e f
one_fault os x y (of_names e) (recursive c f n) = absurd (neither (fault_of_names os) x c e)
one_fault os x y (of_names e) (deep_calls c r f n) = absurd (neither (fault_of_names os) x c e)
one_fault os x y (of_names e) (stray_break c r d h) = absurd (neither (fault_of_names os) x c e)
one_fault os x y (recursive c f n) (of_names e) = absurd (neither (fault_of_names os) y c e)
one_fault os x y (recursive {k = j} {n = a} c f n) (recursive {k = k} {n = b} d g m) = ap Recursive (one_name os j k a b (one_first (IsRecursive (calls_of os)) j k f g) n m)
one_fault os x y (recursive {k = j} c f n) (deep_calls d r g m) = absurd (r j f.holds)
one_fault os x y (recursive {k = j} c f n) (stray_break d r g m) = absurd (r j f.holds)
one_fault os x y (deep_calls c r f n) (of_names e) = absurd (neither (fault_of_names os) y c e)
one_fault os x y (deep_calls c r f n) (recursive {k = j} d g m) = absurd (r j g.holds)
one_fault os x y (deep_calls {k = j} {n = a} c r f n) (deep_calls {k = k} {n = b} d q g m) = ap DeepCalls (one_name os j k a b (one_first (IsDeep (calls_of os)) j k f g) n m)
one_fault os x y (deep_calls {k = j} c r f n) (stray_break d q g m) = absurd (g j f.holds)
one_fault os x y (stray_break c r d h) (of_names e) = absurd (neither (fault_of_names os) y c e)
one_fault os x y (stray_break c r d h) (recursive {k = j} e g m) = absurd (r j g.holds)
one_fault os x y (stray_break c r d h) (deep_calls {k = j} e q g m) = absurd (d j g.holds)
one_fault os x y (stray_break c r d h) (stray_break e q g m) = refl

-- ---- a program has none

no_stray : (p : meant.Program) → IsScoped p → HasStrayBreak p → ⊥
no_stray p s (inl h) = s.main h
no_stray p s (inr (body, k, h)) = s.conditions body k h.0 h.1 h.2

no_deep : (p : meant.Program) (k : ℕ) → IsScoped p → IsDeep p k → ⊥
no_deep p k s d = let l = s.short_chains (k ∷ d.0) d.1.0 in let g = d.1.1 in omega (arith, l, g)

pub programs_have_none : ProgramsHaveNoFault
programs_have_none os rules x c s (of_names e) = neither (fault_of_names os) x c e
programs_have_none os rules x c s (recursive {k} d f n) = s.no_recursion k (reaches (program_with os rules) k k (reached (calls_of os) k k f.holds))
programs_have_none os rules x c s (deep_calls {k} d r f n) = no_deep (program_with os rules) k s (chain_deep (program_with os rules) k 64 refl (deep_chain (calls_of os) k 64 refl f.holds))
programs_have_none os rules x c s (stray_break d r g h) = no_stray (program_with os rules) s (strays_in (program_with os rules) (strays_of (calls_of os) h))

-- ---- what is told is a fault

abbrev pub commands : Outline → List meant.Command
commands os = map (λ (b : ResolvedBody). b.command) (others (resolved_bodies os))

chain_from : (cs : List (List ℕ)) (n k : ℕ) → HasChain cs (suc n) k → k < length cs
chain_from cs n k h = calls_from cs k h.0 h.1.0

deep_from : (p : meant.Program) (k n : ℕ) → suc n ≡ 64 → IsDeep p k → k < length (callees p)
deep_from p k n e d = chain_from (callees p) n k (deep_chain p k (suc n) e d)

named : (os : Outline) (k : ℕ) (n : Name) → slice_get (procedure_names os) k ≡ Some n → IsNameOf os k n
named os k n e = ap (λ l. slice_get l k) (names_listed os) ∙ e

-- each procedure that calls has a name
pub has_name : (os : Outline) (k : ℕ) → k < length (callees_in (commands os)) → k < length (procedure_names os)
has_name os k lt =
    let a = length-map (commands os) there.procedures_in in
    let b = how_many_procedures os in
    let d = how_many_names os in
    omega (arith, lt, a, b, d)

pub recursive_told : (os : Outline) (k : ℕ) (n : Name) → fault_of_names os ≡ None → IsFirstIn (λ j. ReachesIn (callees_in (commands os)) j j) k → slice_get (procedure_names os) k ≡ Some n → IsFault os (Recursive n)
recursive_told os k n c f e = recursive {k = k} c (record { holds = reaches (calls_of os) k k f.holds; none_before = λ j lt r. f.none_before j lt (reached (calls_of os) j j r) }) (named os k n e)

module _ (os : Outline) (marks : List Bool) (m : MarksChains (callees_in (commands os)) 64 marks) where
  marked_deep : (k : ℕ) → IsMarked marks k → IsDeep (calls_of os) k
  marked_deep k h = let l = marked_within marks k h in let c = m.count in chain_deep (calls_of os) k 64 refl (m.marked k (omega (arith, l, c)) h)

  deep_marked : (k : ℕ) → IsDeep (calls_of os) k → IsMarked marks k
  deep_marked k d = m.chains k (deep_from (calls_of os) k 63 refl d) (deep_chain (calls_of os) k 64 refl d)

  pub deep_told : (k : ℕ) (n : Name) → fault_of_names os ≡ None → ((j : ℕ) → ReachesIn (callees_in (commands os)) j j → ⊥) → IsFirstIn (IsMarked marks) k → slice_get (procedure_names os) k ≡ Some n → IsFault os (DeepCalls n)
  deep_told k n c r f e = deep_calls {k = k} c (λ j q. r j (reached (calls_of os) j j q)) (record { holds = marked_deep k f.holds; none_before = λ j lt d. f.none_before j lt (deep_marked j d) }) (named os k n e)

  pub stray_told : fault_of_names os ≡ None → ((j : ℕ) → ReachesIn (callees_in (commands os)) j j → ⊥) → ((j : ℕ) → IsMarked marks j → ⊥) → Strays (main_of (resolved_bodies os)) (commands os) → IsFault os StrayBreak
  stray_told c r d s = stray_break c (λ j q. r j (reached (calls_of os) j j q)) (λ j q. d j (deep_marked j q)) (strays_in (calls_of os) s)

  pub faultless : fault_of_names os ≡ None → ((j : ℕ) → ReachesIn (callees_in (commands os)) j j → ⊥) → ((j : ℕ) → IsMarked marks j → ⊥) → (Strays (main_of (resolved_bodies os)) (commands os) → ⊥) → IsFaultless os
  faultless c r d s f (of_names e) = neither (fault_of_names os) f c e
  faultless c r d s f (recursive {k} e g n) = r k (reached (calls_of os) k k g.holds)
  faultless c r d s f (deep_calls {k} e q g n) = d k (deep_marked k g.holds)
  faultless c r d s f (stray_break e q g h) = s (strays_of (calls_of os) h)

  -- those that reach themselves are marked
  pub recursive_marked : (k : ℕ) → ReachesIn (callees_in (commands os)) k k → IsMarked marks k
  recursive_marked k r = m.chains k (reach_from (callees_in (commands os)) k k r) (goes_on (callees_in (commands os)) k r 64 k r)

-- ---- where there is no fault

module _ (P : ℕ → Type 0) (none : (k : ℕ) → IsFirst P k → ⊥) where
  none_below : (k j : ℕ) → j < k → P j → ⊥
  none_below zero j lt h = omega (arith, lt)
  none_below (suc k) j lt h = none j (record { holds = h; none_before = λ i l g. none_below k i (omega (arith, l, lt)) g })

  none_at_all : (k : ℕ) → P k → ⊥
  none_at_all k h = none_below (k + 1) k (omega arith) h

le_or_more : (a b : ℕ) → (a ≤ b) ⊎ (b < a)
le_or_more a b = elim (order a b) [ inl l ↦ inl (omega (arith, l)) | inr (inl e) ↦ inl (omega (arith, e)) | inr (inr g) ↦ inr g ]

module _ (os : Outline) (free : IsFaultless os) where
  in_order : fault_of_names os ≡ None
  in_order = go (fault_of_names os) refl
    where
      go : (o : Option Fault) → fault_of_names os ≡ o → o ≡ None
      go None e = refl
      go (Some f) e = absurd (free f (of_names e))

  name_for : (k : ℕ) → k < length (callees (calls_of os)) → (n : Name) × IsNameOf os k n
  name_for k lt =
      let x = element (procedure_names os) k (has_name os k lt) in
      (x.0, named os k x.0 x.1)

  none_recursive : (k : ℕ) → IsRecursive (calls_of os) k → ⊥
  none_recursive = none_at_all (IsRecursive (calls_of os)) (λ k f. let n = name_for k (reach_from (callees (calls_of os)) k k (reached (calls_of os) k k f.holds)) in free (Recursive n.0) (recursive {k = k} in_order f n.1))

  none_deep : (k : ℕ) → IsDeep (calls_of os) k → ⊥
  none_deep = none_at_all (IsDeep (calls_of os)) (λ k f. let n = name_for k (deep_from (calls_of os) k 63 refl f.holds) in free (DeepCalls n.0) (deep_calls {k = k} in_order none_recursive f n.1))

  none_stray : HasStrayBreak (calls_of os) → ⊥
  none_stray h = free StrayBreak (stray_break in_order none_recursive none_deep h)

  module _ (rules : List meant_rule.Rule) (e : length rules ≡ length (rules_in os)) where
    abbrev whole : meant.Program
    whole = program_with os rules

    stray_in_calls : HasStrayBreak whole → HasStrayBreak (calls_of os)
    stray_in_calls h = strays_in (calls_of os) (strays_of whole h)

    short : (ks : List ℕ) → IsChain whole ks → length ks ≤ 64
    short [] c = omega arith
    short (k ∷ ks) c = elim (le_or_more (length (k ∷ ks)) 64) [ inl l ↦ l | inr g ↦ absurd (none_deep k (chain_deep (calls_of os) k 64 refl (deep_chain whole k 64 refl (ks, (c, g))))) ]

    pub scoped : IsScoped whole
    scoped = record {
      calls = λ body c h g. each_contained _ _ c (each_contained _ (bodies whole) body (calls_low os in_order) h) g;
      procedures = λ body k h g. let l = each_contained _ _ k (each_contained _ (bodies whole) body (procedures_low os in_order) h) g in let b = how_many_procedures os in omega (arith, l, b);
      rules = λ set r h g. let l = each_contained _ _ r (each_contained _ (flat_map sets_of (all_bodies os)) set (rules_low os in_order) h) g in omega (arith, l, e);
      no_recursion = λ k r. none_recursive k (reaches (calls_of os) k k (reached whole k k r));
      short_chains = short;
      main = λ h. none_stray (stray_in_calls (inl h));
      conditions = λ body k h g b. none_stray (stray_in_calls (inr (body, k, (h, g, b))));
    }

abbrev parts : meant.Command → List meant.Command → List (List ℕ) → List meant_rule.Rule → meant.Program
parts m ps ss rules = record { main = m; procedures = ps; sets = ss; rules = rules }

pub same_program : (os : Outline) (s : ScopedParts) (rules : List meant_rule.Rule) → IsResolved os s → program_of s rules ≡ program_with os rules
same_program os s rules i =
    ap (λ m. parts m (map command_of s.procedures) s.sets rules) i.main
    ∙ ap (λ ps. parts (main_of (resolved_bodies os)) ps s.sets rules) i.procedures
    ∙ ap (λ ss. parts (main_of (resolved_bodies os)) (commands os) ss rules) i.sets

pub always_scoped : (os : Outline) (s : ScopedParts) → IsFaultless os → IsResolved os s → IsAlwaysScoped s
always_scoped os s free i = λ rules e. subst IsScoped (sym (same_program os s rules i)) (scoped os free rules (e ∙ ap length i.rules))
