-- How a table is held: its entries, and what takes its live steps back.
use Rattle.std.specs.Prelude.{ℕ, ◌-◌, ◌<◌, ◌≤◌, List, [], ◌∷◌, All, length, take, set, reverse, Option, Some}
use Rattle.gp_syntax.specs.Images.{EdgeImage}
use Rattle.gp_derivation.specs.declared.table.Taken.{Taken}
use Rattle.gp_derivation.specs.declared.table.Replaced.{Replaced}
use Rattle.gp_derivation.specs.declared.table.EdgeTable.TheInside.{Inside}
use Rattle.gp_derivation.specs.inside.Table.{Tables}

-- the entry of an edge, by its image as it was and as it is today
abbrev pub taken_of : EdgeImage × EdgeImage → Taken
taken_of p = record { was = p.0.number; number = p.1.number }

-- the table with entries that were taken out
abbrev pub all_put_back : List Taken → List (Option ℕ) → List (Option ℕ)
all_put_back [] t = t
all_put_back (p ∷ ps) t = all_put_back ps (set t p.was (Some p.number))

-- the table before the step
abbrev pub taken_back : Replaced → List (Option ℕ) → List (Option ℕ)
taken_back r t = all_put_back r.taken.items (take (length t - r.made) t)

-- the tables that taking back leads to, one after another
abbrev pub befores : List Replaced → List (Option ℕ) → List (List (Option ℕ))
befores [] t = []
befores (r ∷ rs) t = taken_back r t ∷ befores rs (taken_back r t)

-- a table of so many entries has those that the steps put at its end, and places for those that they took out
abbrev pub AllFit : List Replaced → ℕ → Type 0
AllFit [] n = Unit {0}
AllFit (r ∷ rs) n = (r.made ≤ n) × All (λ (p : Taken). p.was < n - r.made) r.taken.items × AllFit rs (n - r.made)

abbrev pub tables_of : Inside → Tables
tables_of a = record { now = a.today.items; before = befores (reverse a.replaced.items) a.today.items }

abbrev pub IsSound : Inside → Type 0
IsSound a = AllFit (reverse a.replaced.items) (length a.today.items)
