-- Matches of one share that are held together, for one turn.
use Rattle.std.specs.Prelude.{◌≡◌, ℕ, ◌<◌, ◌≤◌, ◌⊎◌, List, ◌++◌, length, All, Contains}
use Rattle.opt_system.specs.Meaning.{Meaning, applies, AllIndependent}

module _ {A : Type 0} where
  -- the list begins with these
  abbrev pub StartsWith : List A → List A → Type 0
  StartsWith list seen = (rest : List A) × (list ≡ seen ++ rest)

module _ {State Found Goal Reason : Type 0} (m : Meaning State Found Goal Reason) where
  -- some, and at most `limit`, matches of the share: all apply, and any two are independent
  pub record AreHeld (goal : Goal) (share : ℕ) (at : State) (limit : ℕ) (held : List Found) : Type 0 where
    pub some : 0 < length held
    pub few : length held ≤ limit
    pub of_share : All (λ f. m.share goal f ≡ share) held
    pub independent : AllIndependent m goal at held

  -- of each applying match of the share that is no member, some member is not independent
  abbrev pub NoneFits : Goal → ℕ → State → List Found → Type 0
  NoneFits goal share at held =
      (f : Found) → m.share goal f ≡ share → m.judged goal at f ≡ applies → (Contains held f → ⊥) → (h : Found) × Contains held h × (m.independent at h f → ⊥)

  -- as many as may be held, or all that fit
  abbrev pub IsFull : Goal → ℕ → State → ℕ → List Found → Type 0
  IsFull goal share at limit held = (length held ≡ limit) ⊎ NoneFits goal share at held
