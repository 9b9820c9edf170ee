-- What holds of the rule of a declaration without a fault, in places instead of names.
use Rattle.std.specs.Prelude.{◌≡◌, ℕ, ◌<◌, ◌≤◌, true, List, ◌++◌, map, length, Some, slice_get, IsSomeAnd, All, Any}
use Rattle.gp_syntax.specs.Expression.{Expression, Number, Text, Variable, In_degree, Out_degree, Length_of, Negated, Plus, Minus, Times, Over, Dot, Empty, Join, Condition, Holds, HasType, HasEdge, HasEdgeWith, Compared, Not, And, Or, AnyMark}
use Rattle.gp_syntax.specs.Rule.{Rule, LeftNode, LeftEdge, RightNode, RightEdge}
use Rattle.gp_syntax.specs.Step.{right_labels}
use Rattle.gp_syntax.specs.Typing.{type_in, IsWellTyped, IsWellTypedCondition}
use Rattle.gp_syntax.specs.Simple.{IsSimple, StandsIn}

-- the labels of the left side: nodes first, then edges, in text order
abbrev pub left_labels : Rule → List (Expression ℕ)
left_labels r = map (λ (p : LeftNode). p.label) r.left_nodes ++ map (λ (p : LeftEdge). p.label) r.left_edges

-- ---- places in range

-- the variables that an expression names are below the one number, the nodes below the other
abbrev pub IsWithin : ℕ → ℕ → Expression ℕ → Type 0
IsWithin variables nodes (Number z) = Unit {0}
IsWithin variables nodes (Text s) = Unit {0}
IsWithin variables nodes (Variable x) = x < variables
IsWithin variables nodes (In_degree n) = n < nodes
IsWithin variables nodes (Out_degree n) = n < nodes
IsWithin variables nodes (Length_of x) = x < variables
IsWithin variables nodes (Negated e) = IsWithin variables nodes e
IsWithin variables nodes (Plus d e) = IsWithin variables nodes d × IsWithin variables nodes e
IsWithin variables nodes (Minus d e) = IsWithin variables nodes d × IsWithin variables nodes e
IsWithin variables nodes (Times d e) = IsWithin variables nodes d × IsWithin variables nodes e
IsWithin variables nodes (Over d e) = IsWithin variables nodes d × IsWithin variables nodes e
IsWithin variables nodes (Dot d e) = IsWithin variables nodes d × IsWithin variables nodes e
IsWithin variables nodes Empty = Unit {0}
IsWithin variables nodes (Join d e) = IsWithin variables nodes d × IsWithin variables nodes e

abbrev pub IsConditionWithin : {Mark : Type 0} → ℕ → ℕ → Condition ℕ Mark → Type 0
IsConditionWithin variables nodes Holds = Unit {0}
IsConditionWithin variables nodes (HasType type e) = IsWithin variables nodes e
IsConditionWithin variables nodes (HasEdge a b) = (a < nodes) × (b < nodes)
IsConditionWithin variables nodes (HasEdgeWith a b e mark) = (a < nodes) × (b < nodes) × IsWithin variables nodes e
IsConditionWithin variables nodes (Compared op d e) = IsWithin variables nodes d × IsWithin variables nodes e
IsConditionWithin variables nodes (Not c) = IsConditionWithin variables nodes c
IsConditionWithin variables nodes (And c d) = IsConditionWithin variables nodes c × IsConditionWithin variables nodes d
IsConditionWithin variables nodes (Or c d) = IsConditionWithin variables nodes c × IsConditionWithin variables nodes d

-- ---- the rule

-- Sides are small; ends, origins, variables and nodes are places that are there, and no origin stands twice. Left
-- labels are simple, and each variable stands in one of them. Right labels and the condition are well typed. `any` on
-- the right keeps what the same `any` found, and `(B)` on the right what a `(B)` edge found.
pub record IsWellFormed (r : Rule) : Type 0 where
  pub left_nodes_few : length r.left_nodes ≤ 32
  pub left_edges_few : length r.left_edges ≤ 64
  pub right_nodes_few : length r.right_nodes ≤ 32
  pub right_edges_few : length r.right_edges ≤ 64
  pub left_ends : (k : ℕ) (p : LeftEdge) → slice_get r.left_edges k ≡ Some p → (p.source < length r.left_nodes) × (p.target < length r.left_nodes)
  pub right_ends : (k : ℕ) (q : RightEdge) → slice_get r.right_edges k ≡ Some q → (q.source < length r.right_nodes) × (q.target < length r.right_nodes)
  pub origins : (j i : ℕ) (q : RightNode) → slice_get r.right_nodes j ≡ Some q → q.origin ≡ Some i → i < length r.left_nodes
  pub origins_apart : (j k i : ℕ) (p q : RightNode) → slice_get r.right_nodes j ≡ Some p → slice_get r.right_nodes k ≡ Some q → p.origin ≡ Some i → q.origin ≡ Some i → j ≡ k
  pub edge_origins : (j i : ℕ) (q : RightEdge) → slice_get r.right_edges j ≡ Some q → q.origin ≡ Some i → i < length r.left_edges
  pub edge_origins_apart : (j k i : ℕ) (p q : RightEdge) → slice_get r.right_edges j ≡ Some p → slice_get r.right_edges k ≡ Some q → p.origin ≡ Some i → q.origin ≡ Some i → j ≡ k
  pub left_labels_within : All (IsWithin (length r.types) (length r.left_nodes)) (left_labels r)
  pub right_labels_within : All (IsWithin (length r.types) (length r.left_nodes)) (right_labels r)
  pub condition_within : IsConditionWithin (length r.types) (length r.left_nodes) r.condition
  pub left_labels_simple : All (IsSimple (type_in r.types)) (left_labels r)
  pub variables_stand : (x : ℕ) → x < length r.types → Any (StandsIn x) (left_labels r)
  pub right_labels_typed : All (IsWellTyped (type_in r.types)) (right_labels r)
  pub condition_typed : IsWellTypedCondition (type_in r.types) r.condition
  pub any_nodes : (j : ℕ) (q : RightNode) → slice_get r.right_nodes j ≡ Some q → q.mark ≡ AnyMark
      → IsSomeAnd q.origin (λ i. IsSomeAnd (slice_get r.left_nodes i) (λ (p : LeftNode). p.mark ≡ AnyMark))
  pub any_edges : (k : ℕ) (q : RightEdge) → slice_get r.right_edges k ≡ Some q → q.mark ≡ AnyMark
      → IsSomeAnd q.origin (λ i. IsSomeAnd (slice_get r.left_edges i) (λ (p : LeftEdge). p.mark ≡ AnyMark))
  pub bidirectional_edges : (k : ℕ) (q : RightEdge) → slice_get r.right_edges k ≡ Some q → q.bidirectional ≡ true
      → IsSomeAnd q.origin (λ i. IsSomeAnd (slice_get r.left_edges i) (λ (p : LeftEdge). p.bidirectional ≡ true))
