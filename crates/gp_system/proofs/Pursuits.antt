-- What a crew made of a goal, as items of a trail and as a run.
use Rattle.std.proofs.Common.{◌≡◌, inl, inr, ℕ, zero, suc, ◌+◌, ◌*◌, ◌%◌, List, [], ◌∷◌, ◌++◌, length, take, slice_get, Contains, All, Option, Some, None, refl, sym, ap, subst, ◌∙◌, arith, append_assoc, append-nil}
use Rattle.std.specs.Prelude.{Result, Ok, Err, OnOk}
use Rattle.gp_memory.proofs.Basics.{some_same}
use Rattle.gp_values.specs.Graph.{Graph}
use Rattle.gp_syntax.specs.declared.found.Item.{Item}
use Rattle.gp_syntax.specs.declared.found.Item.TheVariants as items
use Rattle.gp_syntax.specs.Rule.{Rule, Found}
use Rattle.gp_syntax.specs.Step.{Step, CallsTo, HasApplying}
use Rattle.gp_syntax.specs.Run as meant
use Rattle.gp_syntax.specs.Run.{Program, Call, Stepped, Turned}
use Rattle.gp_syntax.specs.WellFormed.{IsWellFormed}
use Rattle.gp_syntax.proofs.Loops.{SoFar, one_step}
use Rattle.gp_match.proofs.Judges.{judged_match}
use Rattle.gp_step.specs.Laws.{IsNumbered}
use Rattle.gp_step.proofs.Afters.{leads_on}
use Rattle.gp_step.proofs.Wholes.{numbered_after}
use Rattle.opt_system.specs.Meaning.{applies}
use Rattle.opt_system.specs.declared.answers.Mode.{Mode}
use Rattle.opt_system.specs.declared.answers.Mode.TheVariants.{Once, Saturate}
use Rattle.opt_core.specs.Core.{reached, AllApply}
use Rattle.gp_journal.specs.Trail.{Trail, led_by, advanced}
use Rattle.gp_journal.specs.Leads.{AppliesBy}
use Rattle.gp_journal.specs.Journal.{items_of}
use Rattle.gp_system.specs.inside.Noted.{noted}
use Rattle.gp_system.specs.declared.goal.CallGoal.{CallGoal}
use Rattle.gp_system.specs.Gp.{RuleSystem, rules_of, has, judged_by, judged_in, gp_means}
use Rattle.gp_system.specs.Laws.{EntriesAreCalls}
use Rattle.gp_system.specs.inside.Pursued.{HasUsed, turns_first, noted_but_last_turn}
use Rattle.gp_system.proofs.Systems.{contains_has, step_of, by_set, well_formed_at}

-- ---- one entry

-- the match is of a rule of the call's set, and applies
pub record IsStepOf (rules : List Rule) (sets : List (List ℕ)) (c : ℕ) (g : Graph) (m : Found) : Type 0 where
  pub set : List ℕ
  pub is_set : slice_get sets c ≡ Some set
  pub in_set : Contains set m.rule
  pub step : AppliesBy rules g m

pub step_in : (rules : List Rule) (sets : List (List ℕ)) (c : ℕ) (g : Graph) (m : Found) → All IsWellFormed rules → judged_in (slice_get sets c) rules g m ≡ applies → IsStepOf rules sets c g m
step_in rules sets c g m w e = go (slice_get sets c) refl e
  where
    go : (o : Option (List ℕ)) → slice_get sets c ≡ o → judged_in o rules g m ≡ applies → IsStepOf rules sets c g m
    go None f h = absurd cc
    go (Some set) f h = record { set = set; is_set = f; in_set = contains_has set m.rule (by_set (has m.rule set) (judged_by (slice_get rules m.rule) g m) h).0; step = step_of judged_match rules (Some set) g m w h }

pub stepped_by : (rules : List Rule) (g : Graph) (m : Found) (a : AppliesBy rules g m) → All IsWellFormed rules → IsNumbered g → Step a.rule g m (led_by (slice_get rules m.rule) g m)
stepped_by rules g m a w n = subst (λ (o : Option Rule). Step a.rule g m (led_by o g m)) (sym a.is_rule) (leads_on a.rule g m (well_formed_at rules m.rule a.rule w a.is_rule) n a.applies)

pub numbered_by : (rules : List Rule) (g : Graph) (m : Found) (a : AppliesBy rules g m) → All IsWellFormed rules → IsNumbered g → IsNumbered (led_by (slice_get rules m.rule) g m)
numbered_by rules g m a w n = subst (λ (o : Option Rule). IsNumbered (led_by o g m)) (sym a.is_rule) (numbered_after a.rule g m (well_formed_at rules m.rule a.rule w a.is_rule) n a.applies)

-- ---- the items of entries

pub turned_over : (es : List Found) → items.Turn ∷ noted Saturate es ≡ turns_first es ++ items.Turn ∷ []
turned_over [] = refl
turned_over (m ∷ ms) = ap (λ (l : List Item). items.Turn ∷ items.Step m ∷ l) (turned_over ms)

length-once : (es : List Found) → length (noted Once es) ≡ length es
length-once [] = refl
length-once (m ∷ ms) = ap suc (length-once ms)

length-saturate : (es : List Found) → length (noted Saturate es) ≡ 2 * length es
length-saturate [] = refl
length-saturate (m ∷ ms) = let l = length-saturate ms in omega arith

take_all : {X : Type 0} (xs : List X) (n : ℕ) → n ≡ length xs → take n xs ≡ xs
take_all [] zero e = refl
take_all [] (suc n) e = absurd (omega arith)
take_all (x ∷ xs) zero e = absurd (omega arith)
take_all (x ∷ xs) (suc n) e = ap (λ (l : List _). x ∷ l) (take_all xs n (omega arith))

-- all but the turn after the last step
pub but_taken : (m : Found) (ms : List Found) (used : ℕ) → used + 1 ≡ 2 * length (m ∷ ms) → take used (noted Saturate (m ∷ ms)) ≡ items.Step m ∷ turns_first ms
but_taken m [] zero e = absurd (omega arith)
but_taken m [] (suc zero) e = refl
but_taken m [] (suc (suc u)) e = absurd (omega arith)
but_taken m (n ∷ ns) zero e = absurd (omega arith)
but_taken m (n ∷ ns) (suc zero) e = absurd (omega arith)
but_taken m (n ∷ ns) (suc (suc u)) e = ap (λ (l : List Item). items.Step m ∷ items.Turn ∷ l) (but_taken n ns u (omega arith))

pub all_taken : (es : List Found) (used : ℕ) → used ≡ 2 * length es → take used (noted Saturate es) ≡ noted Saturate es
all_taken es used e = take_all (noted Saturate es) used (e ∙ sym (length-saturate es))

pub once_taken : (es : List Found) (used : ℕ) → used ≡ length es → take used (noted Once es) ≡ noted Once es
once_taken es used e = take_all (noted Once es) used (e ∙ sym (length-once es))

-- the same, as it is noted
saturate_last : (front : List Found) (m : Found) → noted_but_last_turn (front ++ m ∷ []) ≡ noted Saturate front ++ items.Step m ∷ []
saturate_last [] m = refl
saturate_last (n ∷ []) m = refl
saturate_last (n ∷ k ∷ ns) m = ap (λ (l : List Item). items.Step n ∷ items.Turn ∷ l) (saturate_last (k ∷ ns) m)

pub noted_last : (so mid new : List Item) (es front last : List Found) (m : Found) → es ≡ front ++ m ∷ [] → last ≡ m ∷ [] → mid ≡ so ++ noted Saturate front → new ≡ mid ++ noted Once last → new ≡ so ++ noted_but_last_turn es
noted_last so mid new es front last m e f g h =
    h ∙ ap (λ (l : List Item). l ++ noted Once last) g ∙ ap (λ (l : List Found). (so ++ noted Saturate front) ++ noted Once l) f ∙ append_assoc so (noted Saturate front) (items.Step m ∷ [])
    ∙ ap (λ (l : List Item). so ++ l) (sym (saturate_last front m)) ∙ ap (λ (l : List Found). so ++ noted_but_last_turn l) (sym e)

pub but_noted : (es : List Found) (used : ℕ) → used + 1 ≡ 2 * length es → take used (noted Saturate es) ≡ noted_but_last_turn es
but_noted [] used e = absurd (omega arith)
but_noted (m ∷ ms) used e = but_taken m ms used e

odd_used : (n : ℕ) (es : List Found) → HasUsed Saturate es n → n % 2 ≡ 1 → n + 1 ≡ 2 * length es
odd_used n es (inl e) h = absurd (omega arith)
odd_used n es (inr e) h = e

even_used : (n : ℕ) (es : List Found) → HasUsed Saturate es n → (n % 2 ≡ 1 → ⊥) → n ≡ 2 * length es
even_used n es (inl e) h = e
even_used n es (inr e) h = absurd (h (omega arith))

pub used_but : (so new : List Item) (es : List Found) (n : ℕ) → HasUsed Saturate es n → n % 2 ≡ 1 → new ≡ so ++ noted_but_last_turn es → new ≡ so ++ take n (noted Saturate es)
used_but so new es n h o e = e ∙ ap (λ (l : List Item). so ++ l) (sym (but_noted es n (odd_used n es h o)))

pub used_all : (so new : List Item) (es : List Found) (n : ℕ) → HasUsed Saturate es n → (n % 2 ≡ 1 → ⊥) → new ≡ so ++ noted Saturate es → new ≡ so ++ take n (noted Saturate es)
used_all so new es n h o e = e ∙ ap (λ (l : List Item). so ++ l) (sym (all_taken es n (even_used n es h o)))

pub used_once : (so new : List Item) (es : List Found) (n : ℕ) → n ≡ length es → new ≡ so ++ noted Once es → new ≡ so ++ take n (noted Once es)
used_once so new es n h e = e ∙ ap (λ (l : List Item). so ++ l) (sym (once_taken es n h))

-- where an answer is Ok
pub on_noted_last : {A E : Type 0} (r : Result A E) (so mid new : List Item) (es front last : List Found) (m : Found) → es ≡ front ++ m ∷ [] → last ≡ m ∷ [] → mid ≡ so ++ noted Saturate front → OnOk r (new ≡ mid ++ noted Once last) → OnOk r (new ≡ so ++ noted_but_last_turn es)
on_noted_last (Ok x) so mid new es front last m e f g h = noted_last so mid new es front last m e f g h
on_noted_last (Err x) so mid new es front last m e f g h = tt

pub on_used_but : {A E : Type 0} (r : Result A E) (mode : Mode) (so new : List Item) (es : List Found) (n : ℕ) → mode ≡ Saturate → HasUsed mode es n → n % 2 ≡ 1 → OnOk r (new ≡ so ++ noted_but_last_turn es) → OnOk r (new ≡ so ++ take n (noted mode es))
on_used_but (Ok x) Once so new es n e h o a = absurd cc
on_used_but (Ok x) Saturate so new es n e h o a = used_but so new es n h o a
on_used_but (Err x) mode so new es n e h o a = tt

pub on_used_all : {A E : Type 0} (r : Result A E) (mode : Mode) (so new : List Item) (es : List Found) (n : ℕ) → mode ≡ Saturate → HasUsed mode es n → (n % 2 ≡ 1 → ⊥) → OnOk r (new ≡ so ++ noted Saturate es) → OnOk r (new ≡ so ++ take n (noted mode es))
on_used_all (Ok x) Once so new es n e h o a = absurd cc
on_used_all (Ok x) Saturate so new es n e h o a = used_all so new es n h o a
on_used_all (Err x) mode so new es n e h o a = tt

pub on_used_once : {A E : Type 0} (r : Result A E) (mode : Mode) (so new : List Item) (es : List Found) (n : ℕ) → mode ≡ Once → HasUsed mode es n → OnOk r (new ≡ so ++ noted Once es) → OnOk r (new ≡ so ++ take n (noted mode es))
on_used_once (Ok x) Once so new es n e h a = used_once so new es n h a
on_used_once (Ok x) Saturate so new es n e h a = absurd cc
on_used_once (Err x) mode so new es n e h a = tt

-- ---- entries

module _ (s : RuleSystem) (goal : CallGoal) (w : All IsWellFormed (rules_of s)) where
  step_at : (t : Trail) (m : Found) → (gp_means s).judged goal t m ≡ applies → IsStepOf (rules_of s) s.sets goal.call t.graph m
  step_at t m e = step_in (rules_of s) s.sets goal.call t.graph m w e

  next_numbered : (t : Trail) (m : Found) → (gp_means s).judged goal t m ≡ applies → IsNumbered t.graph → IsNumbered (advanced (rules_of s) t m).graph
  next_numbered t m e n = numbered_by (rules_of s) t.graph m (step_at t m e).step w n

  pub reached_numbered : (t : Trail) (es : List Found) → AllApply (gp_means s) goal t es → IsNumbered t.graph → IsNumbered (reached (gp_means s) t es).graph
  reached_numbered t [] a n = n
  reached_numbered t (m ∷ ms) a n = reached_numbered (advanced (rules_of s) t m) ms a.1 (next_numbered t m a.0 n)

  -- ---- as a run

  calls_at : (t : Trail) (m : Found) (e : (gp_means s).judged goal t m ≡ applies) → IsNumbered t.graph → CallsTo (rules_of s) (step_at t m e).set t.graph m (advanced (rules_of s) t m).graph
  calls_at t m e n = let a = step_at t m e in record { in_set = a.in_set; rule = a.step.rule; is_rule = a.step.is_rule; step = stepped_by (rules_of s) t.graph m a.step w n }

  -- an entry, with those before it
  entry_calls : (t : Trail) (before rest : List Found) (m : Found) (set : List ℕ) → AllApply (gp_means s) goal t (before ++ m ∷ rest) → IsNumbered t.graph → slice_get s.sets goal.call ≡ Some set
      → CallsTo (rules_of s) set (reached (gp_means s) t before).graph m (reached (gp_means s) t (before ++ m ∷ [])).graph
  entry_calls t [] rest m set a n is = subst (λ (l : List ℕ). CallsTo (rules_of s) l t.graph m (advanced (rules_of s) t m).graph) (some_same (sym (step_at t m a.0).is_set ∙ is)) (calls_at t m a.0 n)
  entry_calls t (f ∷ fs) rest m set a n is = entry_calls (advanced (rules_of s) t f) fs rest m set a.1 (next_numbered t f a.0 n) is

  pub called_once : (program : Program) (t : Trail) (m : Found) → program.rules ≡ rules_of s → program.sets ≡ s.sets → (gp_means s).judged goal t m ≡ applies → IsNumbered t.graph → meant.Run program (Call goal.call) t.graph [] (Stepped m ∷ []) (meant.Gives (advanced (rules_of s) t m).graph)
  called_once program t m f h e n =
      let a = step_at t m e in
      meant.call_steps (ap (λ (l : List (List ℕ)). slice_get l goal.call) h ∙ a.is_set) (subst (λ (l : List Rule). CallsTo l a.set t.graph m (advanced (rules_of s) t m).graph) (sym f) (calls_at t m e n))

  pub so_far_on : (program : Program) (g : Graph) (tr : List meant.Item) (t : Trail) (es : List Found) → program.rules ≡ rules_of s → program.sets ≡ s.sets → SoFar program (Call goal.call) g [] tr t.graph → AllApply (gp_means s) goal t es → IsNumbered t.graph
      → SoFar program (Call goal.call) g [] (tr ++ items_of (turns_first es)) (reached (gp_means s) t es).graph
  so_far_on program g tr t [] f h x a n = subst (λ (l : List meant.Item). SoFar program (Call goal.call) g [] l t.graph) (sym (append-nil tr)) x
  so_far_on program g tr t (m ∷ ms) f h x a n =
      let b = step_at t m a.0 in
      let u = advanced (rules_of s) t m in
      let y = one_step x (ap (λ (l : List (List ℕ)). slice_get l goal.call) h ∙ b.is_set) (subst (λ (l : List Rule). CallsTo l b.set t.graph m u.graph) (sym f) (calls_at t m a.0 n)) in
      subst (λ (l : List meant.Item). SoFar program (Call goal.call) g [] l (reached (gp_means s) t (m ∷ ms)).graph) (append_assoc tr (Turned ∷ Stepped m ∷ []) (items_of (turns_first ms)))
      (so_far_on program g (tr ++ Turned ∷ Stepped m ∷ []) u ms f h y a.1 (next_numbered t m a.0 n))

  -- ---- endings

  pub has_applying : (t : Trail) (m : Found) → (gp_means s).judged goal t m ≡ applies → (set : List ℕ) × (slice_get s.sets goal.call ≡ Some set) × HasApplying (rules_of s) set t.graph
  has_applying t m e = let a = step_at t m e in (a.set, a.is_set, record { found = m; in_set = a.in_set; rule = a.step.rule; is_rule = a.step.is_rule; applies = a.step.applies })

pub entries_call : EntriesAreCalls
entries_call s c set w n is legal before m rest e = entry_calls s c.goal w c.base before rest m set (subst (λ (es : List Found). AllApply (gp_means s) c.goal c.base es) e legal.each_applies) n is
