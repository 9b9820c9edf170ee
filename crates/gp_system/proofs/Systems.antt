-- What the system of a program's rules answers.
use Rattle.std.proofs.Common.{◌≡◌, ℕ, zero, suc, ◌+◌, ◌-◌, ◌<◌, ◌||◌, Bool, true, false, List, [], ◌∷◌, map, length, slice_get, slice_index_or, Contains, All, Option, Some, None, refl, sym, ap, subst, ◌∙◌, arith, nat_eq}
use Rattle.std.specs.Prelude.{if◌then◌else◌}
use Rattle.std.specs.Option.{option_map_or}
use Rattle.std.proofs.lemmas.Option.{slice_get-get_or, get_or_from_slice_get, slice_get_within}
use Rattle.gp_memory.proofs.Basics.{or_right}
use Rattle.gp_values.specs.Graph.{Graph}
use Rattle.gp_syntax.specs.declared.kinds.NumberKind.{NumberKind}
use Rattle.gp_syntax.specs.declared.command.ProgramParts.{ProgramParts}
use Rattle.gp_syntax.specs.declared.rule.RuleParts.{RuleParts}
use Rattle.gp_syntax.specs.Scoped.{IsScoped}
use Rattle.gp_syntax.specs.Rule.{Rule, Found}
use Rattle.gp_syntax.specs.Share.{share_of}
use Rattle.gp_syntax.specs.Step.{Applies, IsFaulty}
use Rattle.gp_syntax.specs.Tree.{rule_of_tree, program_of_tree}
use Rattle.gp_syntax.specs.WellFormed.{IsWellFormed}
use Rattle.gp_match.specs.Judge.{judged}
use Rattle.gp_match.specs.Judge as matches
use Rattle.gp_match.specs.Laws.{IsJudged}
use Rattle.gp_match.proofs.Judges.{judged_match}
use Rattle.gp_match.specs.Verdict.{Judges}
use Rattle.gp_match.specs.declared.check.Verdict as match_verdict
use Rattle.gp_match.specs.declared.check.Verdict.TheVariants as matched
use Rattle.gp_search.specs.declared.sought.Sought as found
use Rattle.gp_search.specs.declared.sought.Sought.TheVariants as answers
use Rattle.opt_system.specs.Meaning.{Judged, applies, faulty, neither, undone_by}
use Rattle.opt_system.specs.Answers.{IsVerdictOf, IsSoughtIn}
use Rattle.gp_journal.specs.Trail.{Trail, undone, back_by}
use Rattle.gp_journal.specs.Leads.{AppliesBy}
use Rattle.gp_system.specs.declared.goal.CallGoal.{CallGoal}
use Rattle.gp_system.specs.declared.goal.Fault.{Fault}
use Rattle.gp_system.specs.Gp.{RuleSystem, rules_of, has, with_rule, judged_by, judged_in, share_in, gp_means}
use Rattle.gp_sets.specs.Sought.{HasSought}
use Rattle.gp_system.specs.inside.Planned.{verdict_of, sought_of}
use Rattle.gp_plan.proofs.Pairs.{rule_here}
use Rattle.gp_system.proofs.Sessions.{set_within}

pub same_back : (s : RuleSystem) (k : ℕ) (t : Trail) → back_by k t ≡ undone_by (gp_means s) k t
same_back s zero t = refl
same_back s (suc k) t = same_back s k (undone t)

-- ---- membership

pub has_it : (set : List ℕ) (k i : ℕ) → i < length set → slice_index_or set i k ≡ k → has k set ≡ true
has_it [] k i l e = absurd (omega arith)
has_it (x ∷ set) k zero l e = here (nat_eq x k) (let t : nat_eq x k ≡ true = grind arith in t)
  where
    here : (b : Bool) → b ≡ true → (b || has k set) ≡ true
    here true t = refl
    here false t = absurd cc
has_it (x ∷ set) k (suc i) l e = or_right (nat_eq x k) (has k set) (has_it set k i (omega arith) e)

pub has_contains : (set : List ℕ) (k : ℕ) → Contains set k → has k set ≡ true
has_contains set k c = has_it set k c.0 c.1 c.2

pub contains_has : (set : List ℕ) (k : ℕ) → has k set ≡ true → Contains set k
contains_has [] k e = absurd cc
contains_has (x ∷ set) k e = go (nat_eq x k) refl e (λ h. contains_has set k h)
  where
    go : (b : Bool) → nat_eq x k ≡ b → (b || has k set) ≡ true → (has k set ≡ true → Contains set k) → Contains (x ∷ set) k
    go true f h more = (0, omega arith, let s : x ≡ k = grind arith in s)
    go false f h more = let c = more h in (suc c.0, omega (arith, c.1), c.2)

-- ---- what is judged

module _ (r : Rule) (g : Graph) (m : Found) (w : IsJudged r g m) where
  with_applies : (j : matches.Judged) → with_rule m.rule j ≡ applies → j ≡ matches.applies
  with_applies matches.applies e = refl
  with_applies (matches.faulty k) e = absurd cc
  with_applies matches.neither e = absurd cc

  pub judged_applies : Applies r g m → with_rule m.rule (judged r g m) ≡ applies
  judged_applies a = ap (with_rule m.rule) (w.to_apply.1 a)

  pub judged_faulty : (k : NumberKind) → IsFaulty r g m k → with_rule m.rule (judged r g m) ≡ faulty (record { rule = m.rule; kind = k })
  judged_faulty k a = ap (with_rule m.rule) ((w.to_be_faulty k).1 a)

  pub judged_neither : (Applies r g m → ⊥) → ((k : NumberKind) → IsFaulty r g m k → ⊥) → with_rule m.rule (judged r g m) ≡ neither
  judged_neither a f = ap (with_rule m.rule) (w.to_be_neither.1 (a, f))

  pub applies_judged : with_rule m.rule (judged r g m) ≡ applies → Applies r g m
  applies_judged e = w.to_apply.0 (with_applies (judged r g m) e)

pub well_formed_at : (rules : List Rule) (i : ℕ) (r : Rule) → All IsWellFormed rules → slice_get rules i ≡ Some r → IsWellFormed r
well_formed_at rules i r w e = subst IsWellFormed (get_or_from_slice_get rules i r r e) (w i r (slice_get_within rules i r e))

judged_there : (rules : List Rule) (set : List ℕ) (g : Graph) (m : Found) (r : Rule) → has m.rule set ≡ true → slice_get rules m.rule ≡ Some r → judged_in (Some set) rules g m ≡ with_rule m.rule (judged r g m)
judged_there rules set g m r e f = ap (λ (b : Bool). if b then judged_by (slice_get rules m.rule) g m else neither) e ∙ ap (λ (o : Option Rule). judged_by o g m) f

pub by_set : (b : Bool) (x : Judged Fault) → (if b then x else neither) ≡ applies → (b ≡ true) × (x ≡ applies)
by_set true x e = (refl, e)
by_set false x e = absurd cc

pub step_of : (law : (r : Rule) (g : Graph) (m : Found) → IsWellFormed r → IsJudged r g m) (rules : List Rule) (o : Option (List ℕ)) (g : Graph) (m : Found) → All IsWellFormed rules → judged_in o rules g m ≡ applies → AppliesBy rules g m
step_of law rules None g m w e = absurd cc
step_of law rules (Some set) g m w e = go (slice_get rules m.rule) refl (by_set (has m.rule set) (judged_by (slice_get rules m.rule) g m) e).1
  where
    go : (o : Option Rule) → slice_get rules m.rule ≡ o → judged_by o g m ≡ applies → AppliesBy rules g m
    go None f h = absurd cc
    go (Some r) f h = record { rule = r; is_rule = f; applies = applies_judged r g m (law r g m (well_formed_at rules m.rule r w f)) h }

-- ---- verdicts

pub judges : (r : Rule) (g : Graph) (m : Found) (w : IsJudged r g m) (v : match_verdict.Verdict) → Judges v r g m → IsVerdictOf (verdict_of m.rule v) (with_rule m.rule (judged r g m))
judges r g m w matched.Applies a = judged_applies r g m w a
judges r g m w (matched.Faulty k) a = judged_faulty r g m w k a
judges r g m w matched.No a = judged_neither r g m w a.0 a.1
judges r g m w matched.NoMemory a = tt

pub set_at : (sets : List (List ℕ)) (c : ℕ) (x set : List ℕ) → c < length sets → set ≡ slice_index_or sets c x → slice_get sets c ≡ Some set
set_at sets c x set l e = slice_get-get_or sets c x l ∙ ap (λ (y : List ℕ). Some y) (sym e)

pub verdict_there : (sets : List (List ℕ)) (rules : List Rule) (c : ℕ) (set : List ℕ) (g : Graph) (m : Found) (r : Rule) (v : match_verdict.Verdict) → slice_get sets c ≡ Some set → has m.rule set ≡ true → slice_get rules m.rule ≡ Some r → IsJudged r g m → Judges v r g m
    → IsVerdictOf (verdict_of m.rule v) (judged_in (slice_get sets c) rules g m)
verdict_there sets rules c set g m r v e f h w a = subst (IsVerdictOf (verdict_of m.rule v)) (sym (ap (λ (o : Option (List ℕ)). judged_in o rules g m) e ∙ judged_there rules set g m r f h)) (judges r g m w v a)

-- ---- searches

module _ (law : (r : Rule) (g : Graph) (m : Found) → IsWellFormed r → IsJudged r g m) (s : RuleSystem) (w : All IsWellFormed (rules_of s)) where
  pub there : (goal : CallGoal) (set : List ℕ) (g : Graph) (m : Found) (r : Rule) → slice_get s.sets goal.call ≡ Some set → Contains set m.rule → slice_get (rules_of s) m.rule ≡ Some r → judged_in (slice_get s.sets goal.call) (rules_of s) g m ≡ with_rule m.rule (judged r g m)
  there goal set g m r e c f = ap (λ (o : Option (List ℕ)). judged_in o (rules_of s) g m) e ∙ judged_there (rules_of s) set g m r (has_contains set m.rule c) f

  shared : (m : Found) (r : Rule) (share : ℕ) → slice_get (rules_of s) m.rule ≡ Some r → share_of r m (s.further + 1) ≡ share → share_in (rules_of s) (s.further + 1) m ≡ share
  shared m r share f e = ap (λ (o : Option Rule). option_map_or (λ r. share_of r m (s.further + 1)) o 0) f ∙ e

  pub sought_there : (goal : CallGoal) (set : List ℕ) (share : ℕ) (at : Trail) (x : found.Sought) → slice_get s.sets goal.call ≡ Some set → HasSought (rules_of s) set (s.further + 1) share at.graph x → IsSoughtIn (gp_means s) goal share at (sought_of x)
  sought_there goal set share at (answers.Applies m p) e a =
      (shared m a.rule share a.is_rule a.in_share, there goal set at.graph m a.rule e a.in_set a.is_rule ∙ judged_applies a.rule at.graph m (law a.rule at.graph m (well_formed_at (rules_of s) m.rule a.rule w a.is_rule)) (_, a.holds.0))
  sought_there goal set share at (answers.Faulty m k) e a =
      (shared m a.0.rule share a.0.is_rule a.0.in_share, there goal set at.graph m a.0.rule e a.0.in_set a.0.is_rule ∙ judged_faulty a.0.rule at.graph m (law a.0.rule at.graph m (well_formed_at (rules_of s) m.rule a.0.rule w a.0.is_rule)) k a.0.holds)
  sought_there goal set share at answers.Barren e a = λ m h. ap (λ (o : Option (List ℕ)). judged_in o (rules_of s) at.graph m) e ∙ inside m h (has m.rule set) refl
    where
      known : (m : Found) → share_in (rules_of s) (s.further + 1) m ≡ share → Contains set m.rule → (o : Option Rule) → slice_get (rules_of s) m.rule ≡ o → judged_by o at.graph m ≡ neither
      known m h c None f = refl
      known m h c (Some r) f =
          let q : share_of r m (s.further + 1) ≡ share = sym (ap (λ (o : Option Rule). option_map_or (λ r. share_of r m (s.further + 1)) o 0) f) ∙ h in
          judged_neither r at.graph m (law r at.graph m (well_formed_at (rules_of s) m.rule r w f)) (λ y. a.none_applies m.rule r m c f q y) (λ k y. a.none_faulty m.rule r m k c f q y)

      inside : (m : Found) → share_in (rules_of s) (s.further + 1) m ≡ share → (b : Bool) → has m.rule set ≡ b → (if b then judged_by (slice_get (rules_of s) m.rule) at.graph m else neither) ≡ neither
      inside m h true f = known m h (contains_has set m.rule f) (slice_get (rules_of s) m.rule) refl
      inside m h false f = refl
  sought_there goal set share at answers.NoMemory e a = tt

-- ---- what the bodies ask

abbrev pub system : List RuleParts → List (List ℕ) → ℕ → RuleSystem
system rules sets n = record { rules = rules; sets = sets; further = n }

pub may_advance : (s : RuleSystem) (rules : List RuleParts) (sets : List (List ℕ)) (n : ℕ) (at : Trail) (m : Found) → system rules sets n ≡ s → All IsWellFormed (map rule_of_tree rules) → ((goal : CallGoal) × ((gp_means s).judged goal at m ≡ applies)) → AppliesBy (map rule_of_tree rules) at.graph m
may_advance s rules sets n at m e w a =
    subst (λ (x : RuleSystem). AppliesBy (rules_of x) at.graph m) (sym e)
    (step_of judged_match (rules_of s) (slice_get s.sets a.0.call) at.graph m (subst (λ (x : RuleSystem). All IsWellFormed (rules_of x)) e w) a.1)

pub checks : (s : RuleSystem) (rules : List RuleParts) (sets : List (List ℕ)) (n : ℕ) (goal : CallGoal) (at : Trail) (gr : Graph) (m : Found) (x set : List ℕ) (k : ℕ) (r : RuleParts) (v : match_verdict.Verdict) → system rules sets n ≡ s → goal.call < length sets → set ≡ slice_index_or sets goal.call x → k ≡ m.rule → has k set ≡ true → k < length rules
    → r ≡ slice_index_or rules k r → IsWellFormed (rule_of_tree r) → gr ≡ at.graph → Judges v (rule_of_tree r) gr m → IsVerdictOf (verdict_of k v) ((gp_means s).judged goal at m)
checks s rules sets n goal at gr m x set k r v e l f i j o q w y a =
    subst (λ (z : RuleSystem). IsVerdictOf (verdict_of k v) ((gp_means z).judged goal at m)) e
    (subst (λ (z : ℕ). IsVerdictOf (verdict_of z v) ((gp_means (system rules sets n)).judged goal at m)) (sym i)
    (verdict_there sets (map rule_of_tree rules) goal.call set at.graph m (rule_of_tree r) v (set_at sets goal.call x set l f) (subst (λ (z : ℕ). has z set ≡ true) i j)
    (subst (λ (z : ℕ). slice_get (map rule_of_tree rules) z ≡ Some (rule_of_tree r)) i (rule_here rules k r o q)) (judged_match (rule_of_tree r) at.graph m w) (subst (λ (z : Graph). Judges v (rule_of_tree r) z m) y a)))

pub seeks : (s : RuleSystem) (rules : List RuleParts) (sets : List (List ℕ)) (shares : ℕ) (goal : CallGoal) (share : ℕ) (at : Trail) (gr : Graph) (x set : List ℕ) (answer : found.Sought) → system rules sets (shares - 1) ≡ s → 0 < shares → All IsWellFormed (map rule_of_tree rules) → goal.call < length sets → set ≡ slice_index_or sets goal.call x → gr ≡ at.graph
    → HasSought (map rule_of_tree rules) set shares share gr answer → IsSoughtIn (gp_means s) goal share at (sought_of answer)
seeks s rules sets shares goal share at gr x set answer e pos w l f i a =
    let same : shares ≡ (shares - 1) + 1 = omega arith in
    subst (λ (z : RuleSystem). IsSoughtIn (gp_means z) goal share at (sought_of answer)) e
    (sought_there judged_match (system rules sets (shares - 1)) w goal set share at answer (set_at sets goal.call x set l f)
    (subst (λ (z : ℕ). HasSought (map rule_of_tree rules) set z share at.graph answer) same (subst (λ (z : Graph). HasSought (map rule_of_tree rules) set shares share z answer) i a)))

pub sets_within : (p q : ProgramParts) (sets : List (List ℕ)) (rules : List RuleParts) → q ≡ p → sets ≡ q.sets → rules ≡ q.rules → IsScoped (program_of_tree p) → All (All (λ k. k < length rules)) sets
sets_within p q sets rules e f h w i d l =
    let there : slice_get p.sets i ≡ Some (slice_index_or sets i d) = ap (λ (zs : List (List ℕ)). slice_get zs i) (sym (f ∙ ap (λ (z : ProgramParts). z.sets) e)) ∙ slice_get-get_or sets i d l in
    set_within p q (slice_index_or sets i d) rules i e h (subst (λ (z : ProgramParts). IsScoped (program_of_tree z)) (sym e) w) there
