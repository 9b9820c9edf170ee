-- The entries of a goal that a crew pursued.
use Rattle.std.specs.Prelude.{◌≡◌, List, [], ◌∷◌, ◌++◌}
use Rattle.opt_system.specs.Meaning.{Meaning, applies}
use Rattle.opt_core.specs.Core.{reached}

module _ {State Found Goal Reason : Type 0} (m : Meaning State Found Goal Reason) where
  -- each entry is a step of the goal from the state that the entries before it reach, however few of these its search
  -- saw: it applies there, and with it the entries reach the state after that step
  abbrev pub AreSteps : Goal → State → List Found → Type 0
  AreSteps goal base entries = (before : List Found) (f : Found) (rest : List Found) → entries ≡ before ++ f ∷ rest
      → (m.judged goal (reached m base before) f ≡ applies) × (reached m base (before ++ f ∷ []) ≡ m.after (reached m base before) f)
