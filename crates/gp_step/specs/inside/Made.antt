-- What the right side is to carry, as it is held while a step is made.
use Rattle.std.specs.Prelude.{◌≡◌, ℕ, List, [], map}
use Rattle.std.specs.Option.{option_map_or}
use Rattle.gp_values.specs.declared.marks.EdgeMark.{EdgeMark}
use Rattle.gp_values.specs.declared.marks.EdgeMark.TheVariants as edge_marks
use Rattle.gp_values.specs.Graph.{Graph, Node, Edge, edge_at}
use Rattle.gp_syntax.specs.Images.{EdgeImage}
use Rattle.gp_step.specs.declared.made.Carried.{Carried}
use Rattle.gp_step.specs.declared.made.Kept.{Kept}
use Rattle.gp_step.specs.declared.made.KeptEdge.{KeptEdge}
use Rattle.gp_step.specs.declared.made.KeptEdge.TheVariants.{Stays, Carries}
use Rattle.gp_step.specs.declared.made.MadeEdge.{MadeEdge}
use Rattle.gp_step.specs.declared.changes.Changes.{Changes}
use Rattle.gp_values.specs.declared.atom.Atom.{Atom}
use Rattle.gp_step.specs.inside.Changes.{StepChanges, carried_by, relabel_edges, keep_edges, MayKeepEdges}

abbrev pub number_of : EdgeImage → ℕ
number_of i = i.number

abbrev pub node_of : Carried → Node
node_of c = record { label = c.label; mark = c.mark; root = c.root }

abbrev pub edge_of : MadeEdge → Edge
edge_of e = record { source = e.source; target = e.target; label = e.label; mark = e.mark }

abbrev pub nodes_of : List Carried → List Node
nodes_of cs = map node_of cs

abbrev pub edges_of : List MadeEdge → List Edge
edges_of es = map edge_of es

abbrev pub kept_pair : Kept → ℕ × Node
kept_pair k = (k.number, node_of k.carried)

abbrev pub kept_pairs : List Kept → List (ℕ × Node)
kept_pairs ks = map kept_pair ks

-- what the edge of this number carries
abbrev pub carried_at : Graph → ℕ → List Atom × EdgeMark
carried_at g e = option_map_or carried_by (edge_at g e) ([], edge_marks.None)

-- what a kept edge is to carry: one that stays, what it carries in this graph
abbrev pub kept_edge_pair : Graph → KeptEdge → ℕ × (List Atom × EdgeMark)
kept_edge_pair g (Stays e) = (e, carried_at g e)
kept_edge_pair g (Carries e l m) = (e, (l, m))

abbrev pub kept_edge_pairs : Graph → List KeptEdge → List (ℕ × (List Atom × EdgeMark))
kept_edge_pairs g ks = map (kept_edge_pair g) ks

-- Edges of the one graph may be kept in the other, where each then carries what it is to carry.
pub record KeepsAs (ks : List KeptEdge) (g h : Graph) : Type 0 where
  pub may : MayKeepEdges ks h
  pub same : keep_edges ks h ≡ relabel_edges (kept_edge_pairs g ks) h

-- the edits that are held, over this graph
abbrev pub changes_held : Graph → Changes → StepChanges
changes_held g p = record {
  cut_edges = p.cut_edges.items;
  kept_edges = kept_edge_pairs g p.joined.kept.items;
  cut_nodes = p.cut_nodes.items;
  kept_nodes = kept_pairs p.placed.kept.items;
  new_nodes = nodes_of p.placed.added.items;
  new_edges = edges_of p.joined.added.items;
}
