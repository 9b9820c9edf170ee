-- Simple labels, those of a left side: the values of their variables follow from the value of the label (Plump 2012,
-- section 3: simple expressions; Bak 2015).
use Rattle.std.specs.Prelude.{◌≡◌, ◌⊎◌, ◌↔◌, ℕ, ◌+◌, ◌≤◌, true}
use Rattle.gp_syntax.specs.declared.kinds.VariableType.{VariableType}
use Rattle.gp_syntax.specs.declared.kinds.VariableType.TheVariants as types
use Rattle.gp_syntax.specs.Expression.{Expression, Number, Text, Variable, Negated, Dot, Empty, Join}
use Rattle.gp_syntax.specs.Typing.{is_subtype, IsWellTyped}

-- one for a list variable, and one for a string variable
abbrev pub lists_of : VariableType → ℕ
lists_of types.List = 1
lists_of other = 0

abbrev pub strings_of : VariableType → ℕ
strings_of types.String = 1
strings_of other = 0

-- how often string variables stand in a chain of strings
abbrev pub strings_in : {Ref : Type 0} → (Ref → VariableType) → Expression Ref → ℕ
strings_in t (Variable x) = strings_of (t x)
strings_in t (Dot d e) = strings_in t d + strings_in t e
strings_in t other = 0

-- how often list variables stand in a chain of lists
abbrev pub lists_in : {Ref : Type 0} → (Ref → VariableType) → Expression Ref → ℕ
lists_in t (Variable x) = lists_of (t x)
lists_in t (Join d e) = lists_in t d + lists_in t e
lists_in t other = 0

-- a chain of strings and of string and char variables, with at most one occurrence of string variables
abbrev pub IsText : {Ref : Type 0} → (Ref → VariableType) → Expression Ref → Type 0
IsText t (Text s) = Unit {0}
IsText t (Variable x) = is_subtype (t x) types.String ≡ true
IsText t (Dot d e) = IsText t d × IsText t e × (strings_in t d + strings_in t e ≤ 1)
IsText t other = ⊥

-- a chain of numerals, strings, variables and such texts, with at most one occurrence of list variables
abbrev pub IsSimple : {Ref : Type 0} → (Ref → VariableType) → Expression Ref → Type 0
IsSimple t (Number z) = Unit {0}
IsSimple t (Text s) = Unit {0}
IsSimple t (Variable x) = Unit {0}
IsSimple t (Negated (Number z)) = Unit {0}
IsSimple t (Dot d e) = IsText t (Dot d e)
IsSimple t Empty = Unit {0}
IsSimple t (Join d e) = IsSimple t d × IsSimple t e × (lists_in t d + lists_in t e ≤ 1)
IsSimple t other = ⊥

-- a variable stands in a simple label
abbrev pub StandsIn : {Ref : Type 0} → Ref → Expression Ref → Type 0
StandsIn x (Variable y) = x ≡ y
StandsIn x (Dot d e) = StandsIn x d ⊎ StandsIn x e
StandsIn x (Join d e) = StandsIn x d ⊎ StandsIn x e
StandsIn x other = ⊥

-- ---- the static clause on left labels, in its own words

-- none of `+ - * /`, `indeg`, `outdeg` and `length`, and no unary minus on anything but a numeral
abbrev pub HasNoOperation : {Ref : Type 0} → Expression Ref → Type 0
HasNoOperation (Number z) = Unit {0}
HasNoOperation (Text s) = Unit {0}
HasNoOperation (Variable x) = Unit {0}
HasNoOperation (Negated (Number z)) = Unit {0}
HasNoOperation (Dot d e) = HasNoOperation d × HasNoOperation e
HasNoOperation Empty = Unit {0}
HasNoOperation (Join d e) = HasNoOperation d × HasNoOperation e
HasNoOperation other = ⊥

-- how often list variables stand anywhere in it
abbrev pub all_lists_in : {Ref : Type 0} → (Ref → VariableType) → Expression Ref → ℕ
all_lists_in t (Variable x) = lists_of (t x)
all_lists_in t (Dot d e) = all_lists_in t d + all_lists_in t e
all_lists_in t (Join d e) = all_lists_in t d + all_lists_in t e
all_lists_in t other = 0

-- each string expression in it has at most one occurrence of string variables
abbrev pub HasOneString : {Ref : Type 0} → (Ref → VariableType) → Expression Ref → Type 0
HasOneString t (Dot d e) = strings_in t d + strings_in t e ≤ 1
HasOneString t (Join d e) = HasOneString t d × HasOneString t e
HasOneString t other = Unit {0}

pub record MeetsClause {Ref : Type 0} (t : Ref → VariableType) (e : Expression Ref) : Type 0 where
  pub typed : IsWellTyped t e
  pub no_operation : HasNoOperation e
  pub one_list : all_lists_in t e ≤ 1
  pub one_string : HasOneString t e

-- Simple labels are the well typed ones that meet the clause.
abbrev pub SimpleLabelsAreThese : Type 0 → Type 0
SimpleLabelsAreThese Ref = (t : Ref → VariableType) (e : Expression Ref) → IsSimple t e ↔ MeetsClause t e
