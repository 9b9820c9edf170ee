-- Where the trails of a crew are.
use Rattle.std.proofs.Common.{◌≡◌, inl, inr, ℕ, zero, suc, ◌+◌, ◌-◌, List, [], ◌∷◌, ◌++◌, length, take, drop, All, Option, Some, refl, sym, ap, subst, ◌∙◌, arith}
use Rattle.std.proofs.lemmas.List.{length-drop}
use Rattle.std.proofs.lemmas.List.Elements.{All-weaker}
use Rattle.gp_memory.proofs.Basics.{take_front, take_long}
use Rattle.gp_syntax.specs.Rule.{Found}
use Rattle.opt_system.specs.Meaning.{Meaning}
use Rattle.opt_system.specs.declared.answers.Mode.{Mode}
use Rattle.opt_system.specs.declared.answers.Mode.TheVariants.{Once, Saturate}
use Rattle.opt_core.specs.declared.event.Ending.{Ending}
use Rattle.opt_core.specs.Core.{Core, Legal, IsUsed, reached, AllApply}
use Rattle.opt_worker.specs.Replica.{IsReplica}
use Rattle.gp_journal.specs.Trail.{Trail, advanced}
use Rattle.gp_system.specs.declared.goal.CallGoal.{CallGoal}
use Rattle.gp_system.specs.declared.goal.Fault.{Fault}
use Rattle.gp_system.specs.Gp.{RuleSystem, rules_of, gp_means}
use Rattle.gp_system.specs.inside.Pursued.{IsPursued, IsBehind, HasUsed}

take_drop : {X : Type 0} (n : ℕ) (xs : List X) → take n xs ++ drop n xs ≡ xs
take_drop zero xs = refl
take_drop (suc n) [] = refl
take_drop (suc n) (x ∷ xs) = ap (λ (l : List _). x ∷ l) (take_drop n xs)

-- ---- entries

module _ {State Found Goal Reason : Type 0} (m : Meaning State Found Goal Reason) where
  apply_append : (goal : Goal) (at : State) (xs ys : List Found) → AllApply m goal at (xs ++ ys) → AllApply m goal (reached m at xs) ys
  apply_append goal at [] ys a = a
  apply_append goal at (x ∷ xs) ys a = apply_append goal (m.after at x) xs ys a.1

  reach_append : (at : State) (xs ys : List Found) → reached m at (xs ++ ys) ≡ reached m (reached m at xs) ys
  reach_append at [] ys = refl
  reach_append at (x ∷ xs) ys = reach_append (m.after at x) xs ys

  pub rest_applies : (goal : Goal) (base at : State) (es : List Found) (n : ℕ) → AllApply m goal base es → at ≡ reached m base (take n es) → AllApply m goal at (drop n es)
  rest_applies goal base at es n a e = subst (λ (s : State). AllApply m goal s (drop n es)) (sym e) (apply_append goal base (take n es) (drop n es) (subst (AllApply m goal base) (sym (take_drop n es)) a))

  pub rest_reached : (base at new : State) (es : List Found) (n : ℕ) → at ≡ reached m base (take n es) → new ≡ reached m at (drop n es) → new ≡ reached m base es
  rest_reached base at new es n e f = f ∙ ap (λ (s : State). reached m s (drop n es)) e ∙ sym (reach_append base (take n es) (drop n es)) ∙ ap (reached m base) (take_drop n es)

-- ---- each of them

-- a list that was written whole
pub all_written : {X : Type 0} (P : X → Type 0) (n : ℕ) (xs zs : List X) → n ≡ length xs → All P xs → All P (take n (xs ++ zs))
all_written P n xs zs e h = subst (λ l. All P l) (sym (ap (λ (k : ℕ). take k (xs ++ zs)) e ∙ take_front xs zs)) h

whole_drop : {X : Type 0} (k : ℕ) (xs : List X) → take (length xs - k) (drop k xs) ≡ drop k xs
whole_drop k xs = take_long (length xs - k) (drop k xs) (let e = length-drop k xs in omega arith)

-- a trail that made what it lacked
pub level_now : (s : RuleSystem) (es : List Found) (trail old new : Trail) (n : ℕ) → IsBehind s es trail old → length trail.before ≡ length old.before + n
    → new ≡ reached (gp_means s) old (take (length es - (length es - n)) (drop (length es - n) es)) → new ≡ trail
level_now s es trail old new n b e f =
    let d = b.deep in
    let k : n ≡ b.lacking = omega arith in
    f ∙ ap (reached (gp_means s) old) (whole_drop (length es - n) es) ∙ ap (λ (i : ℕ). reached (gp_means s) old (drop (length es - i) es)) k ∙ b.leads

-- a worker's trail is behind the core's
pub behind_now : (s : RuleSystem) (goal : CallGoal) (base trail at : Trail) (es : List Found) → AllApply (gp_means s) goal base es → trail ≡ reached (gp_means s) base es → IsReplica (gp_means s) base es at → IsBehind s es trail at
behind_now s goal base trail at es a e r =
    let d = depth_reached s base es in
    let t = ap (λ (x : Trail). length x.before) e in
    let c = r.deep in
    let f = r.few in
    let back : length es - (length es - r.count) ≡ r.count = omega arith in
    record {
      lacking = length es - r.count;
      few = omega arith;
      deep = omega arith;
      goal = goal;
      applies = subst (λ (i : ℕ). AllApply (gp_means s) goal at (drop i es)) (sym back) (rest_applies (gp_means s) goal base at es r.count a r.is);
      leads = ap (λ (i : ℕ). reached (gp_means s) at (drop i es)) back ∙ rest_reached (gp_means s) base at (reached (gp_means s) at (drop r.count es)) es r.count r.is refl ∙ sym e;
    }
  where
    depth_reached : (s : RuleSystem) (t : Trail) (es : List Found) → length (reached (gp_means s) t es).before ≡ length t.before + length es
    depth_reached s t [] = omega arith
    depth_reached s t (m ∷ ms) = let d = depth_reached s (advanced (rules_of s) t m) ms in omega arith

pub behind_all : (s : RuleSystem) (c : Core RuleSystem Trail Found CallGoal Fault) (base trail : Trail) (es : List Found) (replicas : List Trail) → Legal (gp_means s) c → c.base ≡ base → trail ≡ c.state → es ≡ c.entries
    → All (IsReplica (gp_means s) base c.entries) replicas → All (IsBehind s es trail) replicas
behind_all s c base trail es replicas legal e f g h =
    let a : AllApply (gp_means s) c.goal base c.entries = subst (λ (t : Trail). AllApply (gp_means s) c.goal t c.entries) e legal.each_applies in
    let t : trail ≡ reached (gp_means s) base c.entries = f ∙ legal.at_all ∙ ap (λ (x : Trail). reached (gp_means s) x c.entries) e in
    subst (λ (l : List Found). All (IsBehind s l trail) replicas) (sym g)
    (All-weaker (IsReplica (gp_means s) base c.entries) (IsBehind s c.entries trail) (λ at r. behind_now s c.goal base trail at c.entries a t r) replicas h)

-- ---- items that were used

has_used : (s : RuleSystem) (mode : Mode) (es : List Found) (x : Option (Ending Fault)) (used : ℕ) → IsUsed (gp_means s) mode (length es) x used → HasUsed mode es used
has_used s Once es x used h = h
has_used s Saturate es x used (inl h) = inl h
has_used s Saturate es x used (inr h) = inr h.0

pub used_now : (gp : RuleSystem) (goal : CallGoal) (base at : Trail) (given left : ℕ) (es : List Found) (x : Ending Fault) → IsPursued gp goal base given at es left x → HasUsed goal.mode es (given - left)
used_now gp goal base at given left es x p =
    let i = p.legal.items in
    let e : given - left ≡ i.0 = let g : given ≡ left + i.0 = i.1 in omega arith in
    subst (HasUsed goal.mode es) (sym e) (has_used gp goal.mode es (Some x) i.0 i.2)
