-- The one assignment by which a match of a checked rule can be one.
use Rattle.std.specs.Prelude.{ℕ, zero, suc, List, [], ◌∷◌, ◌++◌, map, length, Option, unwrap_or}
use Rattle.std.specs.Option.{option_map}
use Rattle.gp_values.specs.declared.atom.Atom.{Atom}
use Rattle.gp_values.specs.Graph.{Graph, Node, Edge, node_at, edge_at}
use Rattle.gp_syntax.specs.Value.{Assignment}
use Rattle.gp_syntax.specs.Rule.{Rule, Found}
use Rattle.gp_syntax.specs.Typing.{type_in}
use Rattle.gp_syntax.specs.WellFormed.{left_labels}
use Rattle.gp_unify.specs.Known.{Known, nothing_known}
use Rattle.gp_unify.specs.Unify.{unify_all}

-- the labels of nodes, and of edges, of these numbers
abbrev pub node_labels : Graph → List ℕ → List (Option (List Atom))
node_labels g ns = map (λ n. option_map (λ (x : Node). x.label) (node_at g n)) ns

abbrev pub edge_labels : Graph → List ℕ → List (Option (List Atom))
edge_labels g es = map (λ e. option_map (λ (d : Edge). d.label) (edge_at g e)) es

-- what the host carries at the images of the left side
abbrev pub found_labels : Graph → Found → List (Option (List Atom))
found_labels g m = node_labels g m.nodes ++ edge_labels g m.edges

-- the values of the first variables, `empty` where none is known
abbrev pub listed : ℕ → Known → Assignment
listed zero q = []
listed (suc n) q = unwrap_or (q 0) [] ∷ listed n (λ x. q (suc x))

-- what the labels at the images tell
abbrev pub candidate : Rule → Graph → Found → Option Assignment
candidate r g m = option_map (λ q. listed (length r.types) q) (unify_all (type_in r.types) (left_labels r) (found_labels g m) nothing_known)
