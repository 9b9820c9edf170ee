-- The value of an expression (Plump 2012, section 2: labels and their evaluation).
use Rattle.std.specs.Prelude.{ℕ, zero, ℤ, pos, negsuc, neg_ℤ, ◌+ℤ◌, ◌-ℤ◌, ◌*ℤ◌, int_div, int_lt, int_le, ◌^◌, ◌-◌, ◌&&◌, Bool, true, false, if◌then◌else◌, List, [], ◌∷◌, ◌++◌, length, slice_index, slice_index_or}
use Rattle.gp_values.specs.declared.atom.Atom.{Atom}
use Rattle.gp_values.specs.declared.atom.Atom.TheVariants.{Int, Str}
use Rattle.gp_values.specs.Graph.{Graph, in_degree, out_degree}
use Rattle.gp_syntax.specs.declared.kinds.NumberKind.{NumberKind}
use Rattle.gp_syntax.specs.declared.kinds.NumberKind.TheVariants.{PastBits, ZeroDivisor}
use Rattle.gp_syntax.specs.declared.kinds.VariableType.{VariableType}
use Rattle.gp_syntax.specs.declared.kinds.VariableType.TheVariants as types
use Rattle.gp_syntax.specs.Expression.{Expression, Number, Text, Variable, In_degree, Out_degree, Length_of, Negated, Plus, Minus, Times, Over, Dot, Empty, Join}

-- a value, or none and why
pub data Valued (A : Type 0) : Type 0 where
  Value : A → Valued A
  NoValue : NumberKind → Valued A

infixl 10 ◌>>=◌
-- what comes next, where there is a value; else the kind that was met first
abbrev pub ◌>>=◌ : {A B : Type 0} → Valued A → (A → Valued B) → Valued B
Value x >>= f = f x
NoValue k >>= f = NoValue k

-- the values of the variables, in the order of their places
abbrev pub Assignment : Type 0
Assignment = List (List Atom)

-- What expressions and conditions are valued over: the declared types of the variables and their values, the images
-- of the left nodes, and the graph before the step.
pub record Setting : Type 0 where
  pub types : List VariableType
  pub assigned : Assignment
  pub images : List ℕ
  pub graph : Graph

abbrev pub type_at : Setting → ℕ → VariableType
type_at s x = slice_index_or s.types x types.List

abbrev pub assigned_at : Setting → ℕ → List Atom
assigned_at s x = slice_index_or s.assigned x []

abbrev pub image_at : Setting → ℕ → ℕ
image_at s n = slice_index s.images n

-- whether a list is a value of the type
abbrev pub is_of : VariableType → List Atom → Bool
is_of types.List v = true
is_of types.Atom (x ∷ []) = true
is_of types.Int (Int z ∷ []) = true
is_of types.String (Str s ∷ []) = true
is_of types.Char (Str (c ∷ []) ∷ []) = true
is_of type other = false

-- a list of one integer as that integer; of other lists a checked rule never asks
abbrev pub integer : List Atom → ℤ
integer (Int z ∷ []) = z
integer other = pos 0

-- a list of one string as its characters
abbrev pub characters : List Atom → List ℕ
characters (Str s ∷ []) = s
characters other = []

abbrev pub number : ℤ → List Atom
number z = Int z ∷ []

-- an integer, unless it is past 128 bits
abbrev pub ranged : ℤ → Valued (List Atom)
ranged z = if int_le (negsuc (2 ^ 127 - 1)) z && int_lt z (pos (2 ^ 127)) then Value (number z) else NoValue PastBits

-- division truncates towards zero
abbrev pub quotient : ℤ → ℤ → Valued (List Atom)
quotient x (pos zero) = NoValue ZeroDivisor
quotient x y = ranged (int_div x y)

-- the length of a variable's value, by its declared type: of a list its atoms, of a string or char its characters, of
-- an atom the characters of a string, and 1 for an integer
abbrev pub length_by : VariableType → List Atom → ℕ
length_by types.List v = length v
length_by types.Int v = 1
length_by types.Atom (Str s ∷ []) = length s
length_by types.Atom other = 1
length_by types.String v = length (characters v)
length_by types.Char v = length (characters v)

-- Operands are valued from the left, and the first kind met is the kind.
abbrev pub value_of : Expression ℕ → Setting → Valued (List Atom)
value_of (Number z) s = Value (number z)
value_of (Text t) s = Value (Str t ∷ [])
value_of (Variable x) s = Value (assigned_at s x)
value_of (In_degree n) s = Value (number (pos (in_degree s.graph (image_at s n))))
value_of (Out_degree n) s = Value (number (pos (out_degree s.graph (image_at s n))))
value_of (Length_of x) s = Value (number (pos (length_by (type_at s x) (assigned_at s x))))
value_of (Negated e) s = value_of e s >>= λ x. ranged (neg_ℤ (integer x))
value_of (Plus d e) s = value_of d s >>= λ x. value_of e s >>= λ y. ranged (integer x +ℤ integer y)
value_of (Minus d e) s = value_of d s >>= λ x. value_of e s >>= λ y. ranged (integer x -ℤ integer y)
value_of (Times d e) s = value_of d s >>= λ x. value_of e s >>= λ y. ranged (integer x *ℤ integer y)
value_of (Over d e) s = value_of d s >>= λ x. value_of e s >>= λ y. quotient (integer x) (integer y)
value_of (Dot d e) s = value_of d s >>= λ x. value_of e s >>= λ y. Value (Str (characters x ++ characters y) ∷ [])
value_of Empty s = Value []
value_of (Join d e) s = value_of d s >>= λ x. value_of e s >>= λ y. Value (x ++ y)
