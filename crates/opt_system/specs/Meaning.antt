-- What a system means: plain data over its states, matches, goals and reasons.
use Rattle.std.specs.Prelude.{◌≡◌, ℕ, zero, suc, ◌+◌, ◌<◌, List, [], ◌∷◌, All, AllPairs}
use Rattle.opt_system.specs.declared.answers.Mode.{Mode}

-- what a match is for a goal in a state
pub data Judged (Reason : Type 0) : Type 0 where
  applies : Judged Reason
  faulty : Reason → Judged Reason
  neither : Judged Reason

pub record Meaning (State Found Goal Reason : Type 0) : Type 1 where
  pub judged : Goal → State → Found → Judged Reason
  -- the state after the step of a match
  pub after : State → Found → State
  -- the state with its last step taken back
  pub undone : State → State
  -- how many steps can be taken back
  pub depth : State → ℕ
  -- how many shares a goal has
  pub shares : Goal → ℕ
  -- the share that a match is in
  pub share : Goal → Found → ℕ
  pub mode : Goal → Mode
  -- two matches of which neither step takes away or changes what the other one needs
  pub independent : State → Found → Found → Type 0

module _ {State Found Goal Reason : Type 0} (m : Meaning State Found Goal Reason) where
  -- no match of the share applies or is faulty
  abbrev pub Barren : Goal → ℕ → State → Type 0
  Barren goal share at = (f : Found) → m.share goal f ≡ share → m.judged goal at f ≡ neither

  -- the state with its last k steps taken back
  abbrev pub undone_by : ℕ → State → State
  undone_by zero at = at
  undone_by (suc k) at = undone_by k (m.undone at)

  -- the state after the steps of these matches, one after another
  abbrev pub reached : State → List Found → State
  reached at [] = at
  reached at (f ∷ fs) = reached (m.after at f) fs

  -- all of these matches apply, and any two of them are independent
  pub record AllIndependent (goal : Goal) (at : State) (fs : List Found) : Type 0 where
    pub each_applies : All (λ f. m.judged goal at f ≡ applies) fs
    pub pairwise : AllPairs (m.independent at) fs

  -- the laws of a system
  pub record IsLawful : Type 0 where
    -- a step makes the state one deeper
    pub deeper : (goal : Goal) (at : State) (f : Found) → m.judged goal at f ≡ applies → m.depth (m.after at f) ≡ m.depth at + 1
    -- a step that is taken back leaves the very state
    pub undoes : (goal : Goal) (at : State) (f : Found) → m.judged goal at f ≡ applies → m.undone (m.after at f) ≡ at
    -- a goal has at least one share
    pub some_share : (goal : Goal) → 0 < m.shares goal
    -- all shares together hold all matches
    pub all_shares : (goal : Goal) (f : Found) → m.share goal f < m.shares goal
    -- independence goes both ways
    pub other_way : (at : State) (f h : Found) → m.independent at f h → m.independent at h f
    -- of independent matches each applies after any others of them, made in any order
    pub follows : (goal : Goal) (at : State) (f : Found) (fs : List Found) → AllIndependent goal at (f ∷ fs) → m.judged goal (reached at fs) f ≡ applies
