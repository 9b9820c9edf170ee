-- The rules of a program keep the laws of a system.
use Rattle.std.specs.Prelude.{◌≡◌, ℕ, ◌+◌, ◌<◌, ◌%◌, Bool, true, false, if◌then◌else◌, List, [], ◌∷◌, Option, Some, None, slice_get, slice_index, All, suc, refl}
use Rattle.std.specs.Option.{option_map_or}
use Rattle.std.proofs.Common.{arith, sym, ap, subst, ◌∙◌}
use Rattle.std.proofs.lemmas.List.Sorted.{IsPermutation-refl}
use Rattle.std.proofs.lemmas.Option.{get_or_from_slice_get, slice_get_within}
use Rattle.gp_values.specs.Graph.{Graph}
use Rattle.gp_syntax.specs.Replay.{StepsTo}
use Rattle.gp_syntax.specs.Rule.{Rule, Found}
use Rattle.gp_syntax.specs.Share.{share_of, first_node}
use Rattle.gp_syntax.specs.WellFormed.{IsWellFormed}
use Rattle.gp_match.specs.Judge.{judged}
use Rattle.gp_match.specs.Judge as matches
use Rattle.gp_match.proofs.Judges.{judged_match}
use Rattle.gp_step.specs.Laws.{IsNumbered}
use Rattle.gp_step.proofs.Wholes.{one_step_on, numbered_step}
use Rattle.gp_journal.specs.Trail.{Trail, advanced, led_by}
use Rattle.gp_independence.specs.Laws.{IsApplying}
use Rattle.gp_independence.proofs.Lists.{matches_derive, matches_follow}
use Rattle.gp_independence.proofs.Orders.{other_way}
use Rattle.opt_system.specs.Meaning.{Judged, applies, neither, AllIndependent, IsLawful, reached}
use Rattle.gp_system.specs.declared.goal.CallGoal.{CallGoal}
use Rattle.gp_system.specs.declared.goal.Fault.{Fault}
use Rattle.gp_system.specs.Gp.{RuleSystem, has, with_rule, judged_by, judged_in, rules_of, gp_means}

below_modulus : (p n : ℕ) → p % (n + 1) < n + 1
below_modulus p n = omega arith

share_below : (o : Option ℕ) (xs : List ℕ) (n : ℕ) → option_map_or (λ i. slice_index xs i % (n + 1)) o 0 < n + 1
share_below None xs n = omega arith
share_below (Some i) xs n = below_modulus (slice_index xs i) n

rule_below : (o : Option Rule) (m : Found) (n : ℕ) → option_map_or (λ r. share_of r m (n + 1)) o 0 < n + 1
rule_below None m n = omega arith
rule_below (Some r) m n = share_below (first_node r) m.nodes n

-- ---- matches that apply

with_applies : (k : ℕ) (j : matches.Judged) → with_rule k j ≡ applies → j ≡ matches.applies
with_applies k matches.applies e = refl
with_applies k (matches.faulty kind) e = absurd cc
with_applies k matches.neither e = absurd cc

of_set : (b : Bool) (x : Judged Fault) → (if b then x else neither) ≡ applies → (b ≡ true) × (x ≡ applies)
of_set true x e = (refl, e)
of_set false x e = absurd cc

module _ (rules : List Rule) (each : All IsWellFormed rules) where
  well : (k : ℕ) (r : Rule) → slice_get rules k ≡ Some r → IsWellFormed r
  well k r e = subst IsWellFormed (get_or_from_slice_get rules k r r e) (each k r (slice_get_within rules k r e))

  by_number : (g : Graph) (m : Found) (o : Option Rule) → slice_get rules m.rule ≡ o → judged_by o g m ≡ applies → IsApplying rules g m
  by_number g m None f e = absurd cc
  by_number g m (Some r) f e = (r, f, (judged_match r g m (well m.rule r f)).to_apply.0 (with_applies m.rule (judged r g m) e))

  pub applying : (o : Option (List ℕ)) (g : Graph) (m : Found) → judged_in o rules g m ≡ applies → IsApplying rules g m
  applying None g m e = absurd cc
  applying (Some set) g m e = by_number g m (slice_get rules m.rule) refl (of_set (has m.rule set) (judged_by (slice_get rules m.rule) g m) e).1

  -- the set still has the match's rule
  still_judged : (o : Option (List ℕ)) (g h : Graph) (m : Found) → judged_in o rules g m ≡ applies → IsApplying rules h m → judged_in o rules h m ≡ applies
  still_judged None g h m e now = absurd cc
  still_judged (Some set) g h m e now =
      ap (λ (b : Bool). if b then judged_by (slice_get rules m.rule) h m else neither) (of_set (has m.rule set) (judged_by (slice_get rules m.rule) g m) e).0
      ∙ ap (λ (o : Option Rule). judged_by o h m) now.1 ∙ ap (with_rule m.rule) ((judged_match now.0 h m (well m.rule now.0 now.1)).to_apply.1 now.2)

-- ---- the states after steps

module _ (s : RuleSystem) (each : All IsWellFormed (rules_of s)) where
  -- one graph is reached
  reached_by : (fs : List Found) (at : Trail) (h : Graph) → IsNumbered at.graph → StepsTo (rules_of s) at.graph fs h → h ≡ (reached (gp_means s) at fs).graph
  reached_by [] at h numbered steps = steps
  reached_by (m ∷ ms) at h numbered steps =
      let k = steps.0 in
      let r = steps.1 in
      let w = well (rules_of s) each m.rule r steps.2 in
      let is : k ≡ (advanced (rules_of s) at m).graph = (one_step_on r at.graph m w numbered).only k steps.3 ∙ ap (λ (o : Option Rule). led_by o at.graph m) (sym steps.2) in
      reached_by ms (advanced (rules_of s) at m) h (subst IsNumbered is (numbered_step w numbered steps.3.1.is_match steps.3.2)) (subst (λ (g : Graph). StepsTo (rules_of s) g ms h) is steps.4)

  all_applying : (goal : CallGoal) (at : Trail) (fs : List Found) → All (λ f. (gp_means s).judged goal at f ≡ applies) fs → All (IsApplying (rules_of s) at.graph) fs
  all_applying goal at fs h i d l = applying (rules_of s) each (slice_get s.sets goal.call) at.graph _ (h i d l)

  follows_all : (goal : CallGoal) (at : Trail) (f : Found) (fs : List Found) → IsNumbered at.graph → AllIndependent (gp_means s) goal at (f ∷ fs) → (gp_means s).judged goal (reached (gp_means s) at fs) f ≡ applies
  follows_all goal at f fs numbered all =
      let rules = rules_of s in
      let all_apply = all_applying goal at (f ∷ fs) all.each_applies in
      let first = matches_derive rules at.graph fs fs each numbered (λ i d l. all_apply (suc i) d (omega arith))
      (λ i j d low high. (all.pairwise (suc i) (suc j) d (omega arith) (omega arith)).independent) (IsPermutation-refl fs) in
      let last = matches_follow rules at.graph first.0 f fs fs each numbered all_apply (λ i j d low high. (all.pairwise i j d low high).independent) (IsPermutation-refl fs) first.1 in
      still_judged rules each (slice_get s.sets goal.call) at.graph (reached (gp_means s) at fs).graph f (all.each_applies 0 f (omega arith))
      (subst (λ (g : Graph). IsApplying rules g f) (reached_by fs at first.0 numbered first.1) last)

follows : (s : RuleSystem) (goal : CallGoal) (at : Trail) (f : Found) (fs : List Found) → AllIndependent (gp_means s) goal at (f ∷ fs) → (gp_means s).judged goal (reached (gp_means s) at fs) f ≡ applies
follows s goal at f [] all = all.each_applies 0 f (omega arith)
follows s goal at f (h ∷ hs) all = let p = all.pairwise 0 1 f (omega arith) (omega arith) in follows_all s p.well_formed goal at f (h ∷ hs) p.numbered all

pub gp_lawful : (s : RuleSystem) → IsLawful (gp_means s)
gp_lawful s = record {
  deeper = λ goal at m e. omega arith;
  undoes = λ goal at m e. refl;
  some_share = λ goal. omega arith;
  all_shares = λ goal m. rule_below (slice_get (rules_of s) m.rule) m s.further;
  other_way = λ at m n i. record { well_formed = i.well_formed; numbered = i.numbered; independent = λ r t a b. other_way (i.independent t r b a) };
  follows = follows s;
}
