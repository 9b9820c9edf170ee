-- Facts on each of a list, and entries as steps.
use Rattle.std.proofs.Common.{◌≡◌, ℕ, ◌≤◌, List, [], ◌∷◌, ◌++◌, length, take, drop, refl, subst, ap, ◌∙◌, arith, append-nil, take_all}
use Rattle.std.specs.List.{All}
use Rattle.std.proofs.lemmas.List.{drop_all}
use Rattle.std.proofs.lemmas.List.Elements.{All-nil, All-append, All-same, All-take}
use Rattle.opt_system.specs.Meaning.{Meaning, applies}
use Rattle.opt_core.specs.Core.{reached, AllApply}
use Rattle.opt_worker.specs.Entries.{AreSteps}
use Rattle.opt_worker.specs.Replica.{IsReplica}

-- what was written into a whole vector
pub written : {X : Type 0} (P : X → Type 0) (n : ℕ) (new old : List X) → length old ≤ length new → All P new → All P (take n (new ++ drop (length new) old))
written P n new old long all = All-take P n (new ++ drop (length new) old) (All-append P new (drop (length new) old) all (All-same P (drop (length new) old) [] (drop_all (length new) old long) (All-nil P)))

-- what is written so is the vector then
pub written_whole : {X : Type 0} (n : ℕ) (new old : List X) → length old ≤ length new → n ≡ length new → take n (new ++ drop (length new) old) ≡ new
written_whole n new old long is = ap (λ xs. take n (new ++ xs)) (drop_all (length new) old long) ∙ ap (λ xs. take n xs) (append-nil new) ∙ take_all n new (omega (arith, is))

-- the base has no step of any entries
pub at_base : {State Found Goal Reason : Type 0} (m : Meaning State Found Goal Reason) (base : State) (entries : List Found) (at : State) → at ≡ base → IsReplica m base entries at
at_base m base entries at is = record {
  count = 0;
  few = omega arith;
  is = is;
  deep = let e = ap m.depth is in omega arith;
}

module _ {State Found Goal Reason : Type 0} (m : Meaning State Found Goal Reason) where
  reached_snoc : (at : State) (es : List Found) (f : Found) → reached m at (es ++ f ∷ []) ≡ m.after (reached m at es) f
  reached_snoc at [] f = refl
  reached_snoc at (e ∷ es) f = reached_snoc (m.after at e) es f

  applies_there : (goal : Goal) (at : State) (before rest : List Found) (f : Found) → AllApply m goal at (before ++ f ∷ rest) → m.judged goal (reached m at before) f ≡ applies
  applies_there goal at [] rest f all = all.0
  applies_there goal at (e ∷ es) rest f all = applies_there goal (m.after at e) es rest f all.1

  -- entries that apply one after another are steps
  pub are_steps : (goal goal' : Goal) (base base' : State) (entries : List Found) → goal' ≡ goal → base' ≡ base → AllApply m goal' base' entries → AreSteps m goal base entries
  are_steps goal goal' base base' entries same same' all = λ before f rest is.
      let here : AllApply m goal base entries = subst (λ (g : Goal). AllApply m g base entries) same (subst (λ (b : State). AllApply m goal' b entries) same' all) in
      (applies_there goal base before rest f (subst (λ (es : List Found). AllApply m goal base es) is here), reached_snoc base before f)
