-- Labels whose value is known beforehand, and rules that are never faulty.
use Rattle.std.specs.Prelude.{◌≡◌, ℕ, List, [], ◌∷◌, ◌++◌, Some, slice_get}
use Rattle.gp_values.specs.declared.atom.Atom.{Atom}
use Rattle.gp_values.specs.declared.atom.Atom.TheVariants.{Int, Str}
use Rattle.gp_syntax.specs.Expression.{Expression, Number, Text, Negated, Plus, Minus, Times, Over, Dot, Empty, Join, Holds}
use Rattle.gp_syntax.specs.Rule.{Rule, RightNode, RightEdge}

-- numbers, strings, `empty`, and lists of these
abbrev pub IsConstant : {Ref : Type 0} → Expression Ref → Type 0
IsConstant (Number z) = Unit {0}
IsConstant (Text s) = Unit {0}
IsConstant Empty = Unit {0}
IsConstant (Join d e) = IsConstant d × IsConstant e
IsConstant other = ⊥

-- the list that is written there
abbrev pub constant_of : {Ref : Type 0} → Expression Ref → List Atom
constant_of (Number z) = Int z ∷ []
constant_of (Text s) = Str s ∷ []
constant_of (Join d e) = constant_of d ++ constant_of e
constant_of other = []

-- no unary minus and none of `+ - * /`, which alone may leave an expression without a value
abbrev pub HasNoArithmetic : {Ref : Type 0} → Expression Ref → Type 0
HasNoArithmetic (Negated e) = ⊥
HasNoArithmetic (Plus d e) = ⊥
HasNoArithmetic (Minus d e) = ⊥
HasNoArithmetic (Times d e) = ⊥
HasNoArithmetic (Over d e) = ⊥
HasNoArithmetic (Dot d e) = HasNoArithmetic d × HasNoArithmetic e
HasNoArithmetic (Join d e) = HasNoArithmetic d × HasNoArithmetic e
HasNoArithmetic other = Unit {0}

-- a rule without a condition whose right labels have no arithmetic
pub record IsFaultless (r : Rule) : Type 0 where
  pub condition : r.condition ≡ Holds
  pub right_nodes : (j : ℕ) (q : RightNode) → slice_get r.right_nodes j ≡ Some q → HasNoArithmetic q.label
  pub right_edges : (k : ℕ) (q : RightEdge) → slice_get r.right_edges k ≡ Some q → HasNoArithmetic q.label
