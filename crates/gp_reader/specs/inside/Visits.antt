-- How procedures are visited.
use Rattle.std.specs.Prelude.{◌≡◌, ◌⊎◌, ℕ, suc, ◌+◌, ◌<◌, ◌≤◌, Bool, true, false, List, [], ◌∷◌, length, slice_index, Contains}
use Rattle.gp_reader.specs.inside.Procedures.{Called, IsMarked}

-- one of these is marked
abbrev pub CallsMarked : List ℕ → List Bool → Type 0
CallsMarked called marks = (j : ℕ) × (Contains called j × IsMarked marks j)

-- ---- ranks

abbrev pub rank_of : List ℕ → ℕ → ℕ
rank_of ranks k = slice_index ranks k

abbrev pub GoesDown : List (List ℕ) → List ℕ → Type 0
GoesDown callees ranks = (j k : ℕ) → Called callees j k → rank_of ranks k ≤ rank_of ranks j

abbrev pub LeadsDown : List (List ℕ) → List ℕ → ℕ → Type 0
LeadsDown callees ranks j = (k : ℕ) → Called callees j k → rank_of ranks k < rank_of ranks j

-- ---- a visit

abbrev pub unmarked : List Bool → ℕ
unmarked [] = 0
unmarked (true ∷ marks) = unmarked marks
unmarked (false ∷ marks) = suc (unmarked marks)

-- Those that were found are seen then. What is seen was seen or found; what is new is left too; and what was left still is.
pub record Visited (found : List ℕ) (seen now : List Bool) (left rest : List ℕ) : Type 0 where
  pub same_length : length now ≡ length seen
  pub all_found : (k : ℕ) → Contains found k → IsMarked now k
  pub kept : (k : ℕ) → IsMarked seen k → IsMarked now k
  pub only : (k : ℕ) → IsMarked now k → IsMarked seen k ⊎ Contains found k
  pub still_left : (k : ℕ) → Contains left k → Contains rest k
  pub new_left : (k : ℕ) → IsMarked now k → IsMarked seen k ⊎ Contains rest k
  pub left_seen : (k : ℕ) → Contains rest k → Contains left k ⊎ IsMarked now k
  pub balance : unmarked now + length rest ≡ unmarked seen + length left
