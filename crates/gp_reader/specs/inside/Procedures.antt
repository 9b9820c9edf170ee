-- What procedures call, as lists of numbers, and where `break` may stray (Plump 2012, section 4; Bak 2015: `break`).
use Rattle.std.specs.Prelude.{◌≡◌, ◌⊎◌, ℕ, zero, suc, ◌<◌, Bool, true, false, List, [], ◌∷◌, length, slice_index_or, Contains}
use Rattle.gp_syntax.specs.Run.{Command, Skip}
use Rattle.gp_syntax.specs.Run as meant
use Rattle.gp_syntax.specs.Scoped.{MayBreak, conditions_in}

-- the one procedure calls the other
abbrev pub Called : List (List ℕ) → ℕ → ℕ → Type 0
Called callees j k = Contains (slice_index_or callees j []) k

-- each call is of a procedure that is there
abbrev pub InRange : List (List ℕ) → Type 0
InRange callees = (j k : ℕ) → Called callees j k → k < length callees

pub data ReachesIn (callees : List (List ℕ)) (j : ℕ) : ℕ → Type 0 where
  directly : {k : ℕ} → Called callees j k → ReachesIn callees j k
  further : {k l : ℕ} → ReachesIn callees j k → Called callees k l → ReachesIn callees j l

pub record IsFirstIn (P : ℕ → Type 0) (k : ℕ) : Type 0 where
  pub holds : P k
  pub none_before : (j : ℕ) → j < k → P j → ⊥

abbrev pub IsMarked : List Bool → ℕ → Type 0
IsMarked marks k = slice_index_or marks k false ≡ true

-- a chain of so many calls begins at the procedure
abbrev pub HasChain : List (List ℕ) → ℕ → ℕ → Type 0
HasChain callees zero k = Unit {0}
HasChain callees (suc n) k = (j : ℕ) × (Called callees k j × HasChain callees n j)

-- just those are marked from which a chain of so many calls begins
pub record MarksChains (callees : List (List ℕ)) (n : ℕ) (marks : List Bool) : Type 0 where
  pub count : length marks ≡ length callees
  pub marked : (k : ℕ) → k < length callees → IsMarked marks k → HasChain callees n k
  pub chains : (k : ℕ) → k < length callees → HasChain callees n k → IsMarked marks k

-- procedures alone, as a program
abbrev pub procedures_alone : List Command → meant.Program
procedures_alone procedures = record { main = Skip; procedures = procedures; sets = []; rules = [] }

-- Main, or a condition in a body, may break
abbrev pub Strays : Command → List Command → Type 0
Strays main procedures =
    MayBreak (procedures_alone procedures) main ⊎ ((body : Command) × (k : Command) × (Contains (main ∷ procedures) body × Contains (conditions_in body) k × MayBreak (procedures_alone procedures) k))
