-- A rule, with its nodes and edges named by their places in the text of their side (Plump 2012, section 3: conditional
-- rule schemata; Bak 2015: root nodes, `any`, bidirectional edges).
use Rattle.std.specs.Prelude.{◌≡◌, ℕ, ◌==◌, ◌&&◌, ◌||◌, not, Bool, false, if◌then◌else◌, List, map, Option, Some, None, option_and_then, slice_get}
use Rattle.std.specs.List.{list_any}
use Rattle.std.specs.Option.{option_map_or}
use Rattle.gp_values.specs.declared.marks.NodeMark.{NodeMark}
use Rattle.gp_values.specs.declared.marks.EdgeMark.{EdgeMark}
use Rattle.gp_syntax.specs.declared.kinds.VariableType.{VariableType}
use Rattle.gp_syntax.specs.Expression.{Expression, Condition, MarkPattern}

pub record LeftNode : Type 0 where
  pub label : Expression ℕ
  pub mark : MarkPattern NodeMark
  pub root : Bool

-- the ends are places of left nodes
pub record LeftEdge : Type 0 where
  pub source : ℕ
  pub target : ℕ
  pub label : Expression ℕ
  pub mark : MarkPattern EdgeMark
  pub bidirectional : Bool

-- origin: the left node of the same name, where the interface has that name
pub record RightNode : Type 0 where
  pub origin : Option ℕ
  pub label : Expression ℕ
  pub mark : MarkPattern NodeMark
  pub root : Bool

-- origin: the left edge of the same name, whose mark `any` keeps and whose direction `(B)` keeps; turned: the right
-- edge is written with that left edge's two names exchanged
pub record RightEdge : Type 0 where
  pub origin : Option ℕ
  pub turned : Bool
  pub source : ℕ
  pub target : ℕ
  pub label : Expression ℕ
  pub mark : MarkPattern EdgeMark
  pub bidirectional : Bool

-- types: those of the variables that stand in labels of the left side, in the order of their declaration
pub record Rule : Type 0 where
  pub types : List VariableType
  pub left_nodes : List LeftNode
  pub left_edges : List LeftEdge
  pub right_nodes : List RightNode
  pub right_edges : List RightEdge
  pub condition : Condition ℕ (MarkPattern EdgeMark)

-- the interface has the left node of this place
abbrev pub IsKept : Rule → ℕ → Type 0
IsKept r i = (j : ℕ) × (q : RightNode) × (slice_get r.right_nodes j ≡ Some q) × (q.origin ≡ Some i)

-- the same, as a test
abbrev pub is_origin : ℕ → Option ℕ → Bool
is_origin i (Some k) = k == i
is_origin i None = false

abbrev pub is_kept : Rule → ℕ → Bool
is_kept r i = list_any (λ (q : RightNode). is_origin i q.origin) r.right_nodes

-- ---- what a step keeps

-- the right node of the one place is the left node of the other
abbrev pub keeps_node : Rule → ℕ → ℕ → Bool
keeps_node r j i = option_map_or (λ (q : RightNode). is_origin i q.origin) (slice_get r.right_nodes j) false

abbrev pub differ : Bool → Bool → Bool
differ a b = (a && not b) || (b && not a)

-- Of the left edge of its name a right edge is the same edge where both have `(B)` or neither has, and its ends are the
-- same nodes of the interface: in the same order or, with `(B)`, in either.
abbrev pub is_same_edge : Rule → RightEdge → LeftEdge → Bool
is_same_edge r q p =
    not (differ p.bidirectional q.bidirectional) && (q.bidirectional || not q.turned)
    && (keeps_node r q.source (if q.turned then p.target else p.source) && keeps_node r q.target (if q.turned then p.source else p.target))

-- the left edge that a right edge keeps
abbrev pub kept_edge : Rule → RightEdge → Option ℕ
kept_edge r q = if option_map_or (is_same_edge r q) (option_and_then (slice_get r.left_edges) q.origin) false then q.origin else None

-- For each item of the right side the place of the left one that it keeps. One that keeps none is made anew.
abbrev pub kept_nodes : Rule → List (Option ℕ)
kept_nodes r = map (λ (q : RightNode). q.origin) r.right_nodes

abbrev pub kept_edges : Rule → List (Option ℕ)
kept_edges r = map (kept_edge r) r.right_edges

-- where a match lies: the number of the rule, for each left edge whether it was matched reversed, and the numbers of
-- the images of left nodes and left edges, each in the order of the left side's text
pub record Found : Type 0 where
  pub rule : ℕ
  pub reversed : List Bool
  pub nodes : List ℕ
  pub edges : List ℕ
