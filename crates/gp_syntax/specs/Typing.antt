-- The types of expressions, and the static clause on the types of operands (Plump 2012, section 2: char is a subtype
-- of string, int and string are subtypes of atom, atom is a subtype of list; Bak 2015).
use Rattle.std.specs.Prelude.{◌≡◌, ℕ, Bool, true, false, List, [], ◌∷◌, slice_index_or}
use Rattle.gp_syntax.specs.declared.kinds.VariableType.{VariableType}
use Rattle.gp_syntax.specs.declared.kinds.VariableType.TheVariants as types
use Rattle.gp_syntax.specs.declared.kinds.Comparison.TheVariants as comparisons
use Rattle.gp_syntax.specs.Expression.{Expression, Text, Variable, Negated, Plus, Minus, Times, Over, Dot, Empty, Join, Condition, Holds, HasType, HasEdge, HasEdgeWith, Compared, Not, And, Or}

-- the type of the variable of a place, in a rule's list of types
abbrev pub type_in : List VariableType → ℕ → VariableType
type_in ts x = slice_index_or ts x types.List

-- whether the first is the second, or a subtype of it
abbrev pub is_subtype : VariableType → VariableType → Bool
is_subtype type types.List = true
is_subtype types.List types.Atom = false
is_subtype type types.Atom = true
is_subtype types.Int types.Int = true
is_subtype types.String types.String = true
is_subtype types.Char types.String = true
is_subtype types.Char types.Char = true
is_subtype type other = false

-- the type of an expression, where its variables have these types
abbrev pub type_of : {Ref : Type 0} → (Ref → VariableType) → Expression Ref → VariableType
type_of t (Text (c ∷ [])) = types.Char
type_of t (Text s) = types.String
type_of t (Variable x) = t x
type_of t (Dot d e) = types.String
type_of t Empty = types.List
type_of t (Join d e) = types.List
type_of t other = types.Int

abbrev pub IsOfType : {Ref : Type 0} → (Ref → VariableType) → VariableType → Expression Ref → Type 0
IsOfType t wanted e = is_subtype (type_of t e) wanted ≡ true

-- Operands of arithmetic are of type int, and those of `.` of type string.
abbrev pub IsWellTyped : {Ref : Type 0} → (Ref → VariableType) → Expression Ref → Type 0
IsWellTyped t (Negated e) = IsOfType t types.Int e × IsWellTyped t e
IsWellTyped t (Plus d e) = IsOfType t types.Int d × IsOfType t types.Int e × IsWellTyped t d × IsWellTyped t e
IsWellTyped t (Minus d e) = IsOfType t types.Int d × IsOfType t types.Int e × IsWellTyped t d × IsWellTyped t e
IsWellTyped t (Times d e) = IsOfType t types.Int d × IsOfType t types.Int e × IsWellTyped t d × IsWellTyped t e
IsWellTyped t (Over d e) = IsOfType t types.Int d × IsOfType t types.Int e × IsWellTyped t d × IsWellTyped t e
IsWellTyped t (Dot d e) = IsOfType t types.String d × IsOfType t types.String e × IsWellTyped t d × IsWellTyped t e
IsWellTyped t (Join d e) = IsWellTyped t d × IsWellTyped t e
IsWellTyped t other = Unit {0}

-- What `< <= > >=` compare is of type int; `=` and `!=` compare lists.
abbrev pub IsWellTypedCondition : {Ref Mark : Type 0} → (Ref → VariableType) → Condition Ref Mark → Type 0
IsWellTypedCondition t Holds = Unit {0}
IsWellTypedCondition t (HasType type e) = IsWellTyped t e
IsWellTypedCondition t (HasEdge a b) = Unit {0}
IsWellTypedCondition t (HasEdgeWith a b e mark) = IsWellTyped t e
IsWellTypedCondition t (Compared comparisons.Equal d e) = IsWellTyped t d × IsWellTyped t e
IsWellTypedCondition t (Compared comparisons.NotEqual d e) = IsWellTyped t d × IsWellTyped t e
IsWellTypedCondition t (Compared order d e) = IsOfType t types.Int d × IsOfType t types.Int e × IsWellTyped t d × IsWellTyped t e
IsWellTypedCondition t (Not c) = IsWellTypedCondition t c
IsWellTypedCondition t (And c d) = IsWellTypedCondition t c × IsWellTypedCondition t d
IsWellTypedCondition t (Or c d) = IsWellTypedCondition t c × IsWellTypedCondition t d
