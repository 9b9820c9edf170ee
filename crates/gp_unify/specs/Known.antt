-- What is known of the variables of a rule while its labels are unified with lists (Plump 2012, section 3: a match
-- induces at most one assignment).
use Rattle.std.specs.Prelude.{◌≡◌, ℕ, true, List, [], Option, Some, None, slice_index_or}
use Rattle.gp_values.specs.declared.atom.Atom.{Atom}
use Rattle.gp_syntax.specs.Value.{Assignment, Setting, is_of, type_at, assigned_at}

-- what is known of the variables
abbrev pub Known : Type 0
Known = ℕ → Option (List Atom)

abbrev pub nothing_known : Known
nothing_known x = None

-- an assignment that has what is known
abbrev pub Extends : Known → Assignment → Type 0
Extends p a = (x : ℕ) (w : List Atom) → p x ≡ Some w → slice_index_or a x [] ≡ w

-- the values are of the variables' types
abbrev pub InTypes : Setting → Type 0
InTypes s = (x : ℕ) → is_of (type_at s x) (assigned_at s x) ≡ true
