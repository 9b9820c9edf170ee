-- What takes a step back: edits that take edits back, the first of them made first (the inverse of a direct derivation;
-- Plump 2012, section 3).
use Rattle.std.specs.Prelude.{◌≡◌, ◌-◌, ◌<◌, List, [], ◌∷◌, None, IsSome}
use Rattle.gp_values.specs.Graph.{Graph, node_at, edge_at, HasNoEdges, without_node, without_edge, relabeled, relabeled_edge, with_node_at, with_edge_at, without_node_number, without_edge_number}
use Rattle.gp_step.specs.declared.inverse.Inverse.{Inverse}
use Rattle.gp_step.specs.declared.inverse.Inverse.TheVariants.{DropNode, DropEdge, PutNode, PutEdge, Relabel, RelabelEdge, BeginAt}

-- the graph after one of them
abbrev pub inverse_of : Inverse → Graph → Graph
inverse_of DropNode g = without_node_number (without_node g (g.next_node - 1))
inverse_of DropEdge g = without_edge_number (without_edge g (g.next_edge - 1))
inverse_of (PutNode n l m r) g = with_node_at g n (record { label = l; mark = m; root = r })
inverse_of (PutEdge e s t l m) g = with_edge_at g e (record { source = s; target = t; label = l; mark = m })
inverse_of (Relabel n l m r) g = relabeled g n (record { label = l; mark = m; root = r })
inverse_of (RelabelEdge e l m) g = relabeled_edge g e l m
inverse_of (BeginAt e) g = g

-- the graph after all of them
abbrev pub undone_by : List Inverse → Graph → Graph
undone_by [] g = g
undone_by (u ∷ us) g = undone_by us (inverse_of u g)

-- what one of them names is there, and what it puts is not
abbrev pub MayUndo : Inverse → Graph → Type 0
MayUndo DropNode g = (0 < g.next_node) × IsSome (node_at g (g.next_node - 1)) × HasNoEdges g (g.next_node - 1)
MayUndo DropEdge g = (0 < g.next_edge) × IsSome (edge_at g (g.next_edge - 1))
MayUndo (PutNode n l m r) g = (n < g.next_node) × (node_at g n ≡ None)
MayUndo (PutEdge e s t l m) g = (e < g.next_edge) × (edge_at g e ≡ None) × IsSome (node_at g s) × IsSome (node_at g t)
MayUndo (Relabel n l m r) g = IsSome (node_at g n)
MayUndo (RelabelEdge e l m) g = IsSome (edge_at g e)
MayUndo (BeginAt e) g = IsSome (edge_at g e)

abbrev pub Fits : List Inverse → Graph → Type 0
Fits [] g = Unit {0}
Fits (u ∷ us) g = MayUndo u g × Fits us (inverse_of u g)

-- they may be made, and lead from the graph to the one from before
pub record Undoes (us : List Inverse) (g before : Graph) : Type 0 where
  pub fits : Fits us g
  pub same : undone_by us g ≡ before
