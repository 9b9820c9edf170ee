-- A rule as its text declares it, with names, and the static clauses of names and sizes (Bak 2015: the syntax of rule
-- declarations). The clauses on types, on simple left labels and on marks come with the checker of rules.
use Rattle.std.specs.Prelude.{◌≡◌, ℕ, ◌≤◌, ◌&&◌, not, Bool, false, if◌then◌else◌, List, [], ◌∷◌, ◌++◌, map, filter, flat_map, length, codes, Option, Some, None, unwrap_or}
use Rattle.gp_values.specs.declared.marks.NodeMark.{NodeMark}
use Rattle.gp_values.specs.declared.marks.NodeMark.TheVariants as node_marks
use Rattle.gp_values.specs.declared.marks.EdgeMark.{EdgeMark}
use Rattle.gp_values.specs.declared.marks.EdgeMark.TheVariants as edge_marks
use Rattle.gp_values.specs.Marks.{node_mark_named, edge_mark_named}
use Rattle.gp_values.specs.Names.{Name, same_name, has_name, place_of, first_doubled, first_unknown}
use Rattle.gp_syntax.specs.declared.kinds.VariableType.{VariableType}
use Rattle.gp_syntax.specs.Expression.{Expression, Number, Text, Variable, In_degree, Out_degree, Length_of, Negated, Plus, Minus, Times, Over, Dot, Empty, Join, Condition, Holds, HasType, HasEdge, HasEdgeWith, Compared, Not, And, Or, MarkPattern, Marked, AnyMark, renamed, renamed_condition}
use Rattle.gp_syntax.specs.Rule.{Rule}

-- mark: the word behind `#`, if one is written
pub record DeclaredNode : Type 0 where
  pub name : Name
  pub root : Bool
  pub label : Expression Name
  pub mark : Option Name

pub record DeclaredEdge : Type 0 where
  pub name : Name
  pub bidirectional : Bool
  pub source : Name
  pub target : Name
  pub label : Expression Name
  pub mark : Option Name

pub record Side : Type 0 where
  pub nodes : List DeclaredNode
  pub edges : List DeclaredEdge

pub record DeclaredVariable : Type 0 where
  pub name : Name
  pub type : VariableType

pub record Declaration : Type 0 where
  pub name : Name
  pub variables : List DeclaredVariable
  pub left : Side
  pub right : Side
  pub interface : List Name
  pub condition : Condition Name (Option Name)

-- ---- the names that stand in a declaration

abbrev pub node_names : Side → List Name
node_names s = map (λ (n : DeclaredNode). n.name) s.nodes

abbrev pub edge_names : Side → List Name
edge_names s = map (λ (e : DeclaredEdge). e.name) s.edges

abbrev pub end_names : Side → List Name
end_names s = flat_map (λ (e : DeclaredEdge). e.source ∷ e.target ∷ []) s.edges

abbrev pub labels : Side → List (Expression Name)
labels s = map (λ (n : DeclaredNode). n.label) s.nodes ++ map (λ (e : DeclaredEdge). e.label) s.edges

-- the variables and the nodes that an expression names, in text order
abbrev pub variables_in : Expression Name → List Name
variables_in (Number z) = []
variables_in (Text s) = []
variables_in (Variable x) = x ∷ []
variables_in (In_degree n) = []
variables_in (Out_degree n) = []
variables_in (Length_of x) = x ∷ []
variables_in (Negated e) = variables_in e
variables_in (Plus d e) = variables_in d ++ variables_in e
variables_in (Minus d e) = variables_in d ++ variables_in e
variables_in (Times d e) = variables_in d ++ variables_in e
variables_in (Over d e) = variables_in d ++ variables_in e
variables_in (Dot d e) = variables_in d ++ variables_in e
variables_in Empty = []
variables_in (Join d e) = variables_in d ++ variables_in e

abbrev pub nodes_in : Expression Name → List Name
nodes_in (Number z) = []
nodes_in (Text s) = []
nodes_in (Variable x) = []
nodes_in (In_degree n) = n ∷ []
nodes_in (Out_degree n) = n ∷ []
nodes_in (Length_of x) = []
nodes_in (Negated e) = nodes_in e
nodes_in (Plus d e) = nodes_in d ++ nodes_in e
nodes_in (Minus d e) = nodes_in d ++ nodes_in e
nodes_in (Times d e) = nodes_in d ++ nodes_in e
nodes_in (Over d e) = nodes_in d ++ nodes_in e
nodes_in (Dot d e) = nodes_in d ++ nodes_in e
nodes_in Empty = []
nodes_in (Join d e) = nodes_in d ++ nodes_in e

abbrev pub nodes_in_condition : Condition Name (Option Name) → List Name
nodes_in_condition Holds = []
nodes_in_condition (HasType type e) = nodes_in e
nodes_in_condition (HasEdge a b) = a ∷ b ∷ []
nodes_in_condition (HasEdgeWith a b e mark) = a ∷ b ∷ nodes_in e
nodes_in_condition (Compared op d e) = nodes_in d ++ nodes_in e
nodes_in_condition (Not c) = nodes_in_condition c
nodes_in_condition (And c d) = nodes_in_condition c ++ nodes_in_condition d
nodes_in_condition (Or c d) = nodes_in_condition c ++ nodes_in_condition d

-- ---- static clauses

-- a side has at most 32 nodes and at most 64 edges
pub record IsSmall (s : Side) : Type 0 where
  pub nodes : length s.nodes ≤ 32
  pub edges : length s.edges ≤ 64

-- no name of its kind stands twice: of variables, of the nodes and of the edges of a side, in the interface
pub record NamesOnce (d : Declaration) : Type 0 where
  pub variables : first_doubled (map (λ (v : DeclaredVariable). v.name) d.variables) ≡ None
  pub left_nodes : first_doubled (node_names d.left) ≡ None
  pub left_edges : first_doubled (edge_names d.left) ≡ None
  pub right_nodes : first_doubled (node_names d.right) ≡ None
  pub right_edges : first_doubled (edge_names d.right) ≡ None
  pub interface : first_doubled d.interface ≡ None

-- the ends of edges are nodes of their side, and degrees and tests of edges name nodes of the left side
pub record KnowsNodes (d : Declaration) : Type 0 where
  pub left_ends : first_unknown (node_names d.left) (end_names d.left) ≡ None
  pub right_ends : first_unknown (node_names d.right) (end_names d.right) ≡ None
  pub degrees : first_unknown (node_names d.left) (flat_map nodes_in (labels d.left ++ labels d.right)) ≡ None
  pub tests : first_unknown (node_names d.left) (nodes_in_condition d.condition) ≡ None

-- the interface has nodes of both sides alone
pub record HasInterface (d : Declaration) : Type 0 where
  pub left : first_unknown (node_names d.left) d.interface ≡ None
  pub right : first_unknown (node_names d.right) d.interface ≡ None

-- the static clauses of sizes and names, which alone the rule of a declaration needs
pub record IsWellNamed (d : Declaration) : Type 0 where
  pub left_small : IsSmall d.left
  pub right_small : IsSmall d.right
  pub once : NamesOnce d
  pub nodes : KnowsNodes d
  pub interface : HasInterface d

-- ---- the rule of a declaration

abbrev pub node_mark_of : Option Name → MarkPattern NodeMark
node_mark_of None = Marked node_marks.None
node_mark_of (Some w) = if same_name w (codes "any") then AnyMark else Marked (unwrap_or (node_mark_named w) node_marks.None)

abbrev pub edge_mark_of : Option Name → MarkPattern EdgeMark
edge_mark_of None = Marked edge_marks.None
edge_mark_of (Some w) = if same_name w (codes "any") then AnyMark else Marked (unwrap_or (edge_mark_named w) edge_marks.None)

-- the variables that stand in a left label, in the order of declaration
abbrev pub left_variables : Declaration → List DeclaredVariable
left_variables d = filter (λ (v : DeclaredVariable). has_name (flat_map variables_in (labels d.left)) v.name) d.variables

-- the place of a name, in a list where a checked declaration has it
abbrev pub place_in : List Name → Name → ℕ
place_in names n = unwrap_or (place_of names n) 0

abbrev pub label_in : Declaration → Expression Name → Expression ℕ
label_in d e = renamed (place_in (map (λ (v : DeclaredVariable). v.name) (left_variables d))) (place_in (node_names d.left)) e

-- the left node of a right node's name, where the interface has the name
abbrev pub origin_in : Declaration → Name → Option ℕ
origin_in d n = if has_name d.interface n then place_of (node_names d.left) n else None

-- the left edge of a name
abbrev pub edge_named : List DeclaredEdge → Name → Option DeclaredEdge
edge_named [] n = None
edge_named (e ∷ es) n = if same_name n e.name then Some e else edge_named es n

-- whether a right edge is written with the names of the left edge of its name exchanged
abbrev pub is_turned : Option DeclaredEdge → DeclaredEdge → Bool
is_turned None e = false
is_turned (Some p) e = not (same_name p.source e.source && same_name p.target e.target) && (same_name p.source e.target && same_name p.target e.source)

abbrev pub rule_of : Declaration → Rule
rule_of d = record {
  types = map (λ (v : DeclaredVariable). v.type) (left_variables d);
  left_nodes = map (λ (n : DeclaredNode). record { label = label_in d n.label; mark = node_mark_of n.mark; root = n.root }) d.left.nodes;
  left_edges = map (λ (e : DeclaredEdge). record {
    source = place_in (node_names d.left) e.source;
    target = place_in (node_names d.left) e.target;
    label = label_in d e.label;
    mark = edge_mark_of e.mark;
    bidirectional = e.bidirectional;
  }) d.left.edges;
  right_nodes = map (λ (n : DeclaredNode). record { origin = origin_in d n.name; label = label_in d n.label; mark = node_mark_of n.mark; root = n.root }) d.right.nodes;
  right_edges = map (λ (e : DeclaredEdge). record {
    origin = place_of (edge_names d.left) e.name;
    turned = is_turned (edge_named d.left.edges e.name) e;
    source = place_in (node_names d.right) e.source;
    target = place_in (node_names d.right) e.target;
    label = label_in d e.label;
    mark = edge_mark_of e.mark;
    bidirectional = e.bidirectional;
  }) d.right.edges;
  condition = renamed_condition (place_in (map (λ (v : DeclaredVariable). v.name) (left_variables d))) (place_in (node_names d.left)) edge_mark_of d.condition;
}
