-- Further matches for one turn.
use Rattle.std.proofs.Common.{◌≡◌, ◌⊎◌, inl, inr, ℕ, ◌+◌, ◌-◌, ◌<◌, ◌≤◌, List, [], map, length, get_or, slice_get, slice_index_or, Contains, All, Option, Some, None, sym, ap, subst, ◌∙◌, arith, append-nil}
use Rattle.std.specs.Option.{option_map_or}
use Rattle.std.proofs.lemmas.List.{length-append}
use Rattle.std.proofs.lemmas.Option.{slice_get_past}
use Rattle.gp_values.specs.Graph.{Graph}
use Rattle.gp_syntax.specs.declared.rule.RuleParts.{RuleParts}
use Rattle.gp_syntax.specs.Rule.{Rule, Found}
use Rattle.gp_syntax.specs.Share.{share_of}
use Rattle.gp_syntax.specs.Tree.{rule_of_tree}
use Rattle.gp_syntax.specs.WellFormed.{IsWellFormed}
use Rattle.gp_match.proofs.Judges.{judged_match}
use Rattle.gp_plan.specs.Rules.{RuleSet, Share}
use Rattle.gp_step.specs.Laws.{IsNumbered}
use Rattle.gp_journal.specs.Trail.{Trail}
use Rattle.gp_independence.specs.Held.{IsMember}
use Rattle.gp_independence.specs.Held as batch
use Rattle.opt_system.specs.Meaning.{applies}
use Rattle.opt_system.specs.Batch.{AreHeld, IsFull, StartsWith}
use Rattle.gp_system.specs.declared.goal.CallGoal.{CallGoal}
use Rattle.gp_system.specs.Gp.{RuleSystem, rules_of, has, judged_by, judged_in, gp_means}
use Rattle.gp_system.specs.inside.Laws.{gp_lawful}
use Rattle.gp_system.proofs.Systems.{by_set, contains_has, judged_applies, set_at, step_of, system, there, well_formed_at}

module _ (s : RuleSystem) (w : All IsWellFormed (rules_of s)) (goal : CallGoal) (set : List ℕ) (e : slice_get s.sets goal.call ≡ Some set) (share : ℕ) (at : Trail) where
  abbrev IsMemberHere : Found → Type 0
  IsMemberHere m = IsMember (rules_of s) set (s.further + 1) share at.graph m

  -- a match of the goal and the share that applies is a member, and the other way round
  member : (m : Found) → (gp_means s).share goal m ≡ share → (gp_means s).judged goal at m ≡ applies → IsMemberHere m
  member m shared now =
      let inside : judged_in (Some set) (rules_of s) at.graph m ≡ applies = sym (ap (λ (o : Option (List ℕ)). judged_in o (rules_of s) at.graph m) e) ∙ now in
      let a = step_of judged_match (rules_of s) (Some set) at.graph m w inside in
      record {
        in_set = contains_has set m.rule (by_set (has m.rule set) (judged_by (slice_get (rules_of s) m.rule) at.graph m) inside).0;
        rule = a.rule;
        is_rule = a.is_rule;
        in_share = sym (ap (λ (o : Option Rule). option_map_or (λ r. share_of r m (s.further + 1)) o 0) a.is_rule) ∙ shared;
        applies = a.applies;
      }

  judged_member : (m : Found) → IsMemberHere m → (gp_means s).judged goal at m ≡ applies
  judged_member m h = there judged_match s w goal set at.graph m h.rule e h.in_set h.is_rule ∙ judged_applies h.rule at.graph m (judged_match h.rule at.graph m (well_formed_at (rules_of s) m.rule h.rule w h.is_rule)) h.applies

  shared_member : (m : Found) → IsMemberHere m → (gp_means s).share goal m ≡ share
  shared_member m h = ap (λ (o : Option Rule). option_map_or (λ r. share_of r m (s.further + 1)) o 0) h.is_rule ∙ h.in_share

  pub held_by_rules : (limit : ℕ) (held : List Found) → AreHeld (gp_means s) goal share at limit held → batch.AreHeld (rules_of s) set (s.further + 1) share at.graph limit held
  held_by_rules limit held h = record {
    few = h.few;
    members = λ i d l. member (get_or held i d) (h.of_share i d l) (h.independent.each_applies i d l);
    pairwise = λ i j d low high. (h.independent.pairwise i j d low high).independent;
  }

  pub held_by_meaning : (limit : ℕ) (held : List Found) → IsNumbered at.graph → 0 < length held → batch.AreHeld (rules_of s) set (s.further + 1) share at.graph limit held → AreHeld (gp_means s) goal share at limit held
  held_by_meaning limit held numbered some h = record {
    some = some;
    few = h.few;
    of_share = λ i d l. shared_member (get_or held i d) (h.members i d l);
    independent = record {
      each_applies = λ i d l. judged_member (get_or held i d) (h.members i d l);
      pairwise = λ i j d low high. record { well_formed = w; numbered = numbered; independent = h.pairwise i j d low high };
    };
  }

  pub full_by_meaning : (limit : ℕ) (held : List Found) → (length held ≡ limit) ⊎ batch.NoneFits (rules_of s) set (s.further + 1) share at.graph held → IsFull (gp_means s) goal share at limit held
  full_by_meaning limit held (inl long) = inl long
  full_by_meaning limit held (inr none) = inr (λ f shared now new.
      let m = none f (member f shared now) in
      (m.0, m.1, λ i. elim m.2 [ inl same ↦ new (subst (Contains held) same m.1) | inr apart ↦ apart i.independent ]))

-- the share of a member is one of the goal's
pub share_within : (s : RuleSystem) (rules : List RuleParts) (sets : List (List ℕ)) (shares : ℕ) (goal : CallGoal) (share : ℕ) (at : Trail) (limit : ℕ) (held : List Found) → system rules sets (shares - 1) ≡ s → 0 < shares
    → AreHeld (gp_means s) goal share at limit held → share < shares
share_within s rules sets shares goal share at limit held e pos h =
    let d : Found = record { rule = 0; reversed = []; nodes = []; edges = [] } in
    let f = get_or held 0 d in
    let within : share < s.further + 1 = subst (λ (k : ℕ). k < s.further + 1) (h.of_share 0 d h.some) ((gp_lawful s).all_shares goal f) in
    let same : shares - 1 ≡ s.further = ap (λ (z : RuleSystem). z.further) e in
    omega arith

-- ---- what the body asks

module _ (s : RuleSystem) (rules : List RuleParts) (sets : List (List ℕ)) (shares : ℕ) (goal : CallGoal) (share : ℕ) (at : Trail) (gr : Graph) (x set : List ℕ) (rs : RuleSet) (part : Share) (e : system rules sets (shares - 1) ≡ s) (pos : 0 < shares)
    (w : All IsWellFormed (map rule_of_tree rules)) (l : goal.call < length sets) (f : set ≡ slice_index_or sets goal.call x) (graph : gr ≡ at.graph) (is_rules : rs ≡ record { rules = rules; set = set }) (is_part : part ≡ record { number = share; count = shares })
    (limit : ℕ) where
  same : shares ≡ (shares - 1) + 1
  same = omega arith

  to_rules : (P : List Rule → List ℕ → ℕ → ℕ → Graph → Type 0) → P (map rule_of_tree rs.rules) rs.set part.count part.number gr → P (map rule_of_tree rules) set ((shares - 1) + 1) share at.graph
  to_rules P h =
      subst (λ (n : ℕ). P (map rule_of_tree rules) set n share at.graph) same
      (subst (λ (g : Graph). P (map rule_of_tree rules) set shares share g) graph
      (subst (λ (z : RuleSet). P (map rule_of_tree z.rules) z.set shares share gr) is_rules
      (subst (λ (z : Share). P (map rule_of_tree rs.rules) rs.set z.count z.number gr) is_part h)))

  of_rules : (P : List Rule → List ℕ → ℕ → ℕ → Graph → Type 0) → P (map rule_of_tree rules) set ((shares - 1) + 1) share at.graph → P (map rule_of_tree rs.rules) rs.set part.count part.number gr
  of_rules P h =
      subst (λ (z : Share). P (map rule_of_tree rs.rules) rs.set z.count z.number gr) (sym is_part)
      (subst (λ (z : RuleSet). P (map rule_of_tree z.rules) z.set shares share gr) (sym is_rules)
      (subst (λ (g : Graph). P (map rule_of_tree rules) set shares share g) (sym graph)
      (subst (λ (n : ℕ). P (map rule_of_tree rules) set n share at.graph) (sym same) h)))

  pub may_gather : (held : List Found) → AreHeld (gp_means s) goal share at limit held → batch.AreHeld (map rule_of_tree rs.rules) rs.set part.count part.number gr limit held
  may_gather held h =
      of_rules (λ rs set shares share g. batch.AreHeld rs set shares share g limit held)
      (held_by_rules (system rules sets (shares - 1)) w goal set (set_at sets goal.call x set l f) share at limit held (subst (λ (z : RuleSystem). AreHeld (gp_means z) goal share at limit held) (sym e) h))

  pub are_gathered : (old held : List Found) → IsNumbered gr → AreHeld (gp_means s) goal share at limit old → StartsWith held old → batch.AreHeld (map rule_of_tree rs.rules) rs.set part.count part.number gr limit held → AreHeld (gp_means s) goal share at limit held
  are_gathered old held numbered before first h =
      let some : 0 < length held = (let b = before.some in let k = ap length first.1 ∙ length-append old first.0 in omega arith) in
      subst (λ (z : RuleSystem). AreHeld (gp_means z) goal share at limit held) e
      (held_by_meaning (system rules sets (shares - 1)) w goal set (set_at sets goal.call x set l f) share at limit held (subst IsNumbered graph numbered) some
      (to_rules (λ rs set shares share g. batch.AreHeld rs set shares share g limit held) h))

  pub is_full : (held : List Found) → (length held ≡ limit) ⊎ batch.NoneFits (map rule_of_tree rs.rules) rs.set part.count part.number gr held → IsFull (gp_means s) goal share at limit held
  is_full held h =
      subst (λ (z : RuleSystem). IsFull (gp_means z) goal share at limit held) e
      (full_by_meaning (system rules sets (shares - 1)) w goal set (set_at sets goal.call x set l f) share at limit held
      (to_rules (λ rs set shares share g. (length held ≡ limit) ⊎ batch.NoneFits rs set shares share g held) h))

-- a call of no set has no match
pub none_outside : (s : RuleSystem) (rules : List RuleParts) (sets : List (List ℕ)) (n : ℕ) (goal : CallGoal) (share : ℕ) (at : Trail) (limit : ℕ) (held : List Found) → system rules sets n ≡ s → length sets ≤ goal.call → IsFull (gp_means s) goal share at limit held
none_outside s rules sets n goal share at limit held e past =
    let outside : slice_get s.sets goal.call ≡ None = ap (λ (z : RuleSystem). slice_get z.sets goal.call) (sym e) ∙ slice_get_past sets goal.call past in
    inr (λ f shared now new. absurd (never (slice_get s.sets goal.call) f outside now))
  where
    never : (o : Option (List ℕ)) (f : Found) → o ≡ None → judged_in o (rules_of s) at.graph f ≡ applies → ⊥
    never None f same now = absurd cc
    never (Some set) f same now = absurd cc

pub starts_so : (held : List Found) → StartsWith held held
starts_so held = ([], sym (append-nil held))
