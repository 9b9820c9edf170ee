-- Parts of a rule with places in place of names.
use Rattle.std.specs.Prelude.{ℕ, List, map}
use Rattle.gp_values.specs.declared.marks.EdgeMark.{EdgeMark}
use Rattle.gp_values.specs.Names.{Name, place_of}
use Rattle.gp_syntax.specs.declared.kinds.VariableType.{VariableType}
use Rattle.gp_syntax.specs.Expression.{Expression, Condition, MarkPattern, renamed, renamed_condition}
use Rattle.gp_syntax.specs.Declaration.{DeclaredNode, DeclaredEdge, Declaration, node_names, edge_names, place_in, node_mark_of, edge_mark_of, origin_in, edge_named, is_turned}
use Rattle.gp_syntax.specs.Rule.{Rule, LeftNode, LeftEdge, RightNode, RightEdge}
use Rattle.gp_syntax.specs.Tree.{side_of}
use Rattle.gp_clauses.specs.ConditionShapes.{NamedCondition}
use Rattle.gp_clauses.specs.declared.condition_shape.ConditionShape.{ConditionShape}
use Rattle.gp_clauses.specs.declared.condition_shape.ConditionShape.TheVariants as conditions
use Rattle.gp_clauses.specs.declared.shape.Operation.{Operation}
use Rattle.gp_clauses.specs.declared.shape.Operation.TheVariants as operations
use Rattle.gp_check.specs.declared.places.Places.{Places}

-- variables: the names of those of left labels; nodes: those of left nodes
abbrev pub placed : List Name → List Name → Expression Name → Expression ℕ
placed variables nodes e = renamed (place_in variables) (place_in nodes) e

abbrev pub placed_in : Places → Expression Name → Expression ℕ
placed_in p e = placed p.variables.now (node_names (side_of p.left.now)) e

abbrev pub placed_condition : List Name → List Name → NamedCondition → Condition ℕ (MarkPattern EdgeMark)
placed_condition variables nodes c = renamed_condition (place_in variables) (place_in nodes) edge_mark_of c

abbrev pub placed_condition_in : Places → NamedCondition → Condition ℕ (MarkPattern EdgeMark)
placed_condition_in p c = placed_condition p.variables.now (node_names (side_of p.left.now)) c

-- an expression without names, whatever the names are
abbrev pub numeral : Expression Name → Expression ℕ
numeral e = renamed (λ x. 0) (λ x. 0) e

-- an operation that a left label may have
abbrev pub IsJoining : Operation → Type 0
IsJoining operations.Dot = Unit {0}
IsJoining operations.Join = Unit {0}
IsJoining other = ⊥

-- a condition that is neither a `not` nor a chain
abbrev pub IsTest : ConditionShape → Type 0
IsTest (conditions.Not c) = ⊥
IsTest (conditions.Chain by c ds) = ⊥
IsTest other = Unit {0}

-- ---- nodes and edges

module _ (variables : List Name) (d : Declaration) where
  abbrev pub left_node_at : DeclaredNode → LeftNode
  left_node_at n = record { label = placed variables (node_names d.left) n.label; mark = node_mark_of n.mark; root = n.root }

  abbrev pub left_edge_at : DeclaredEdge → LeftEdge
  left_edge_at e = record {
    source = place_in (node_names d.left) e.source;
    target = place_in (node_names d.left) e.target;
    label = placed variables (node_names d.left) e.label;
    mark = edge_mark_of e.mark;
    bidirectional = e.bidirectional;
  }

  abbrev pub right_node_at : DeclaredNode → RightNode
  right_node_at n = record { origin = origin_in d n.name; label = placed variables (node_names d.left) n.label; mark = node_mark_of n.mark; root = n.root }

  abbrev pub right_edge_at : DeclaredEdge → RightEdge
  right_edge_at e = record {
    origin = place_of (edge_names d.left) e.name;
    turned = is_turned (edge_named d.left.edges e.name) e;
    source = place_in (node_names d.right) e.source;
    target = place_in (node_names d.right) e.target;
    label = placed variables (node_names d.left) e.label;
    mark = edge_mark_of e.mark;
    bidirectional = e.bidirectional;
  }

  abbrev pub rule_at : List VariableType → Rule
  rule_at types = record {
    types = types;
    left_nodes = map left_node_at d.left.nodes;
    left_edges = map left_edge_at d.left.edges;
    right_nodes = map right_node_at d.right.nodes;
    right_edges = map right_edge_at d.right.edges;
    condition = placed_condition variables (node_names d.left) d.condition;
  }
