-- Assignments that are being found: each variable has a value of its declared type, or none yet.
use Rattle.std.specs.Prelude.{◌≡◌, ℕ, true, List, [], map, length, slice_get, slice_index_or, Option, Some, unwrap_or}
use Rattle.gp_values.specs.declared.atom.Atom.{Atom}
use Rattle.gp_syntax.specs.declared.kinds.VariableType.{VariableType}
use Rattle.gp_syntax.specs.declared.kinds.VariableType.TheVariants as types
use Rattle.gp_syntax.specs.Value.{Assignment, is_of}

pub record PartialAssignment : Type 0 where
  pub types : List VariableType
  pub values : List (Option (List Atom))

abbrev pub declared_type : PartialAssignment → ℕ → VariableType
declared_type a x = slice_index_or a.types x types.List

-- one place for each type, and values of their types alone
pub record IsInTypes (a : PartialAssignment) : Type 0 where
  pub count : length a.values ≡ length a.types
  pub in_types : (x : ℕ) (v : List Atom) → slice_get a.values x ≡ Some (Some v) → is_of (declared_type a x) v ≡ true

-- each variable has a value
abbrev pub IsWhole : PartialAssignment → Type 0
IsWhole a = (x : ℕ) (o : Option (List Atom)) → slice_get a.values x ≡ Some o → (v : List Atom) × (o ≡ Some v)

-- the assignment, where it is whole
abbrev pub assigned_of : PartialAssignment → Assignment
assigned_of a = map (λ (o : Option (List Atom)). unwrap_or o []) a.values
