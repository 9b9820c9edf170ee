-- The static clauses of a rule's declaration, in the order in which they are asked, and its first fault (Bak 2015: the
-- conditions on rule declarations). Where a clause names what breaks it, that is the first such name in text order: the
-- variables; the left side, its nodes, then its edges, each with its name, its ends, its label and its mark; the right
-- side; the interface; the condition.
use Rattle.std.specs.Prelude.{nat_lt, nat_le, ◌+◌, ◌&&◌, ◌||◌, not, Bool, true, false, if◌then◌else◌, List, [], ◌∷◌, ◌++◌, map, flat_map, length, codes, Option, Some, None, option_map, is_some}
use Rattle.std.specs.Option.{option_or, option_map_or}
use Rattle.std.specs.List.{list_all}
use Rattle.gp_values.specs.Names.{Name, same_name, has_name, place_of, first_doubled, first_unknown}
use Rattle.gp_values.specs.Marks.{node_mark_named, edge_mark_named}
use Rattle.gp_syntax.specs.declared.kinds.VariableType.{VariableType}
use Rattle.gp_syntax.specs.declared.kinds.VariableType.TheVariants as types
use Rattle.gp_syntax.specs.declared.kinds.Comparison.{Comparison}
use Rattle.gp_syntax.specs.declared.kinds.Comparison.TheVariants as comparisons
use Rattle.gp_syntax.specs.Expression.{Expression, Number, Text, Variable, Negated, Plus, Minus, Times, Over, Dot, Empty, Join, Condition, Holds, HasType, HasEdge, HasEdgeWith, Compared, Not, And, Or}
use Rattle.gp_syntax.specs.Typing.{type_in, is_subtype, type_of}
use Rattle.gp_syntax.specs.Simple.{strings_in, all_lists_in}
use Rattle.gp_syntax.specs.Declaration.{DeclaredNode, DeclaredEdge, Side, DeclaredVariable, Declaration, node_names, edge_names, labels, variables_in, nodes_in, nodes_in_condition, edge_named}

pub data Fault : Type 0 where
  TooLarge : Fault
  TwiceDeclared : Name → Fault
  UnknownNode : Name → Fault
  BadInterface : Name → Fault
  Unbound : Name → Fault
  BadType : Fault
  NotSimple : Fault
  BadMark : Fault
  BadBidi : Name → Fault

-- the first that is told, from the front
abbrev pub first_told : {A B : Type 0} → (A → Option B) → List A → Option B
first_told f [] = None
first_told f (x ∷ xs) = option_or (f x) (first_told f xs)

-- the name, unless it passes
abbrev pub unless : Bool → Name → Option Name
unless passes n = if passes then None else Some n

-- ---- sizes

abbrev pub is_large : Side → Bool
is_large s = nat_lt 32 (length s.nodes) || nat_lt 64 (length s.edges)

-- a side has more than 32 nodes or more than 64 edges
abbrev pub too_large : Declaration → Bool
too_large d = is_large d.left || is_large d.right

-- ---- names

abbrev pub variable_names : Declaration → List Name
variable_names d = map (λ (v : DeclaredVariable). v.name) d.variables

-- the name of a variable, of a node or an edge of its side, or in the interface, that stood before among those of its kind
abbrev pub twice_declared : Declaration → Option Name
twice_declared d =
    first_told first_doubled (variable_names d ∷ node_names d.left ∷ edge_names d.left ∷ node_names d.right ∷ edge_names d.right ∷ d.interface ∷ [])

-- what an expression takes the degree of, and is no left node
abbrev pub unknown_degree : Declaration → Expression Name → Option Name
unknown_degree d e = first_unknown (node_names d.left) (nodes_in e)

abbrev pub unknown_at_node : Declaration → DeclaredNode → Option Name
unknown_at_node d n = unknown_degree d n.label

abbrev pub unknown_at_edge : Declaration → Side → DeclaredEdge → Option Name
unknown_at_edge d s e = option_or (first_unknown (node_names s) (e.source ∷ e.target ∷ [])) (unknown_degree d e.label)

abbrev pub unknown_in_side : Declaration → Side → Option Name
unknown_in_side d s = option_or (first_told (unknown_at_node d) s.nodes) (first_told (unknown_at_edge d s) s.edges)

-- the end of an edge that is no node of its side, or what a degree or a test of edges names and is no left node
abbrev pub unknown_node : Declaration → Option Name
unknown_node d =
    option_or (unknown_in_side d d.left) (option_or (unknown_in_side d d.right) (first_unknown (node_names d.left) (nodes_in_condition d.condition)))

-- the name in the interface that is not a node of both sides
abbrev pub bad_interface : Declaration → Option Name
bad_interface d = first_told (λ n. unless (has_name (node_names d.left) n && has_name (node_names d.right) n) n) d.interface

abbrev pub variables_in_condition : {M : Type 0} → Condition Name M → List Name
variables_in_condition Holds = []
variables_in_condition (HasType type e) = variables_in e
variables_in_condition (HasEdge a b) = []
variables_in_condition (HasEdgeWith a b e mark) = variables_in e
variables_in_condition (Compared op d e) = variables_in d ++ variables_in e
variables_in_condition (Not c) = variables_in_condition c
variables_in_condition (And c d) = variables_in_condition c ++ variables_in_condition d
variables_in_condition (Or c d) = variables_in_condition c ++ variables_in_condition d

abbrev pub variables_in_side : Side → List Name
variables_in_side s = flat_map variables_in (labels s)

-- the variable that stands in a label or the condition and is not declared, or in a right label or the condition and in
-- no left label
abbrev pub unbound : Declaration → Option Name
unbound d =
    option_or (first_told (λ x. unless (has_name (variable_names d) x) x) (variables_in_side d.left))
    (first_told (λ x. unless (has_name (variable_names d) x && has_name (variables_in_side d.left) x) x) (variables_in_side d.right ++ variables_in_condition d.condition))

-- ---- types

-- the declared type of a variable
abbrev pub type_named : Declaration → Name → VariableType
type_named d x = option_map_or (type_in (map (λ (v : DeclaredVariable). v.type) d.variables)) (place_of (variable_names d) x) types.List

abbrev pub is_of_type : {Ref : Type 0} → (Ref → VariableType) → VariableType → Expression Ref → Bool
is_of_type t wanted e = is_subtype (type_of t e) wanted

-- operands of arithmetic are of type int, and those of `.` of type string
abbrev pub is_well_typed : {Ref : Type 0} → (Ref → VariableType) → Expression Ref → Bool
is_well_typed t (Negated e) = is_of_type t types.Int e && is_well_typed t e
is_well_typed t (Plus d e) = is_of_type t types.Int d && is_of_type t types.Int e && is_well_typed t d && is_well_typed t e
is_well_typed t (Minus d e) = is_of_type t types.Int d && is_of_type t types.Int e && is_well_typed t d && is_well_typed t e
is_well_typed t (Times d e) = is_of_type t types.Int d && is_of_type t types.Int e && is_well_typed t d && is_well_typed t e
is_well_typed t (Over d e) = is_of_type t types.Int d && is_of_type t types.Int e && is_well_typed t d && is_well_typed t e
is_well_typed t (Dot d e) = is_of_type t types.String d && is_of_type t types.String e && is_well_typed t d && is_well_typed t e
is_well_typed t (Join d e) = is_well_typed t d && is_well_typed t e
is_well_typed t other = true

-- whether a comparison is of integers
abbrev pub is_order : Comparison → Bool
is_order comparisons.Equal = false
is_order comparisons.NotEqual = false
is_order other = true

abbrev pub is_well_typed_condition : {Ref Mark : Type 0} → (Ref → VariableType) → Condition Ref Mark → Bool
is_well_typed_condition t Holds = true
is_well_typed_condition t (HasType type e) = is_well_typed t e
is_well_typed_condition t (HasEdge a b) = true
is_well_typed_condition t (HasEdgeWith a b e mark) = is_well_typed t e
is_well_typed_condition t (Compared op d e) =
    (not (is_order op) || is_of_type t types.Int d && is_of_type t types.Int e) && is_well_typed t d && is_well_typed t e
is_well_typed_condition t (Not c) = is_well_typed_condition t c
is_well_typed_condition t (And c d) = is_well_typed_condition t c && is_well_typed_condition t d
is_well_typed_condition t (Or c d) = is_well_typed_condition t c && is_well_typed_condition t d

-- an operand of `+ - * /`, of a unary minus or of `< <= > >=` is not of type int, or one of `.` not of type string or char
abbrev pub bad_type : Declaration → Bool
bad_type d = not (list_all (is_well_typed (type_named d)) (labels d.left ++ labels d.right) && is_well_typed_condition (type_named d) d.condition)

-- ---- left labels

-- none of `+ - * /`, `indeg`, `outdeg` and `length`, and no unary minus on anything but a numeral
abbrev pub has_no_operation : {Ref : Type 0} → Expression Ref → Bool
has_no_operation (Number z) = true
has_no_operation (Text s) = true
has_no_operation (Variable x) = true
has_no_operation (Negated (Number z)) = true
has_no_operation (Dot d e) = has_no_operation d && has_no_operation e
has_no_operation Empty = true
has_no_operation (Join d e) = has_no_operation d && has_no_operation e
has_no_operation other = false

-- each string expression in it has at most one occurrence of string variables
abbrev pub has_one_string : {Ref : Type 0} → (Ref → VariableType) → Expression Ref → Bool
has_one_string t (Dot d e) = nat_le (strings_in t d + strings_in t e) 1
has_one_string t (Join d e) = has_one_string t d && has_one_string t e
has_one_string t other = true

abbrev pub is_simple : {Ref : Type 0} → (Ref → VariableType) → Expression Ref → Bool
is_simple t e = has_no_operation e && nat_le (all_lists_in t e) 1 && has_one_string t e

-- a left label has an operation, more than one occurrence of list variables, or a string expression with more than one
-- occurrence of string variables
abbrev pub not_simple : Declaration → Bool
not_simple d = not (list_all (is_simple (type_named d)) (labels d.left))

-- ---- marks and directions

abbrev pub is_any : Option Name → Bool
is_any mark = option_map_or (λ w. same_name w (codes "any")) mark false

-- no word, or one of a node's
abbrev pub is_node_mark : Option Name → Bool
is_node_mark mark = option_map_or (λ w. same_name w (codes "any") || is_some (node_mark_named w)) mark true

abbrev pub is_edge_mark : Option Name → Bool
is_edge_mark mark = option_map_or (λ w. same_name w (codes "any") || is_some (edge_mark_named w)) mark true

-- the left node of a name
abbrev pub node_named : List DeclaredNode → Name → Option DeclaredNode
node_named [] n = None
node_named (p ∷ ps) n = if same_name n p.name then Some p else node_named ps n

-- `any` on a right node stands on the left node of its name, which the interface has
abbrev pub keeps_node_mark : Declaration → DeclaredNode → Bool
keeps_node_mark d n = not (is_any n.mark) || has_name d.interface n.name && option_map_or (λ (p : DeclaredNode). is_any p.mark) (node_named d.left.nodes n.name) false

-- `any` on a right edge stands on the left edge of its name
abbrev pub keeps_edge_mark : Declaration → DeclaredEdge → Bool
keeps_edge_mark d e = not (is_any e.mark) || option_map_or (λ (p : DeclaredEdge). is_any p.mark) (edge_named d.left.edges e.name) false

abbrev pub marks_in_condition : {Ref M : Type 0} → Condition Ref M → List M
marks_in_condition Holds = []
marks_in_condition (HasType type e) = []
marks_in_condition (HasEdge a b) = []
marks_in_condition (HasEdgeWith a b e mark) = mark ∷ []
marks_in_condition (Compared op d e) = []
marks_in_condition (Not c) = marks_in_condition c
marks_in_condition (And c d) = marks_in_condition c ++ marks_in_condition d
marks_in_condition (Or c d) = marks_in_condition c ++ marks_in_condition d

abbrev pub has_marks : Side → Bool
has_marks s = list_all (λ (n : DeclaredNode). is_node_mark n.mark) s.nodes && list_all (λ (e : DeclaredEdge). is_edge_mark e.mark) s.edges

-- a word is no mark of its place, or `any` stands on the right where nothing was found by it
abbrev pub bad_mark : Declaration → Bool
bad_mark d = not (has_marks d.left && has_marks d.right && list_all is_edge_mark (marks_in_condition d.condition)
    && list_all (keeps_node_mark d) d.right.nodes && list_all (keeps_edge_mark d) d.right.edges)

-- the same two names, in either order
abbrev pub joins_the_same : DeclaredEdge → DeclaredEdge → Bool
joins_the_same p e = same_name p.source e.source && same_name p.target e.target || same_name p.source e.target && same_name p.target e.source

-- `(B)` on a right edge stands on the left edge of its name, between the same two names
abbrev pub keeps_direction : Declaration → DeclaredEdge → Bool
keeps_direction d e =
    not e.bidirectional || option_map_or (λ (p : DeclaredEdge). p.bidirectional && joins_the_same p e) (edge_named d.left.edges e.name) false

-- the right edge with `(B)` whose name is no such left edge
abbrev pub bad_bidi : Declaration → Option Name
bad_bidi d = first_told (λ (e : DeclaredEdge). unless (keeps_direction d e) e.name) d.right.edges

-- ---- the first fault

abbrev pub when : Bool → Fault → Option Fault
when b fault = if b then Some fault else None

unfoldable pub fault_of : Declaration → Option Fault
fault_of d =
    option_or (when (too_large d) TooLarge)
    (option_or (option_map TwiceDeclared (twice_declared d))
    (option_or (option_map UnknownNode (unknown_node d))
    (option_or (option_map BadInterface (bad_interface d))
    (option_or (option_map Unbound (unbound d))
    (option_or (when (bad_type d) BadType)
    (option_or (when (not_simple d) NotSimple)
    (option_or (when (bad_mark d) BadMark)
    (option_map BadBidi (bad_bidi d)))))))))
