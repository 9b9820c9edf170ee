-- The step as it was until edges kept their number: it deletes all matched edges and makes those of the right side
-- anew. Matches, and what the right side says of nodes and edges, are as they are now (Plump 2012, section 3).
use Rattle.std.specs.Prelude.{◌≡◌, ℕ, ◌+◌, ◌<◌, List, [], ◌∷◌, length, slice_get, slice_index, Some, None, is_none, count_by, Contains}
use Rattle.gp_values.specs.Graph.{Graph, Node, Edge, node_at, edge_at}
use Rattle.gp_syntax.specs.Value.{Assignment}
use Rattle.gp_syntax.specs.Rule.{Rule, RightNode, RightEdge, Found, kept_nodes}
use Rattle.gp_syntax.specs.Step.{AppliesBy, Places, MakesNode, MakesEdge}
use Rattle.gp_syntax.specs.Run.{Item, live}
use Rattle.gp_syntax.specs.Replay.{BacksFit}

-- the graph that the match leads to, by this assignment
pub record StepAnewBy (r : Rule) (g : Graph) (m : Found) (a : Assignment) (h : Graph) : Type 0 where
  pub images : List ℕ
  pub places : Places (kept_nodes r) m.nodes g.next_node images
  pub next_node : h.next_node ≡ g.next_node + count_by is_none (kept_nodes r)
  -- right edges take the next numbers, in text order
  pub next_edge : h.next_edge ≡ g.next_edge + length r.right_edges
  -- at the images of the right side stands what it says
  pub right_nodes : (j : ℕ) (q : RightNode) → slice_get r.right_nodes j ≡ Some q → (x : Node) × (node_at h (slice_index images j) ≡ Some x) × MakesNode r g m a q x
  pub right_edges : (k : ℕ) (q : RightEdge) → slice_get r.right_edges k ≡ Some q → (d : Edge) × (edge_at h (g.next_edge + k) ≡ Some d) × MakesEdge r g m a images q d
  -- outside them is what the host has outside the images of the left side, with all that it carries
  pub deleted_nodes : (n : ℕ) → (Contains images n → ⊥) → Contains m.nodes n → node_at h n ≡ None
  pub other_nodes : (n : ℕ) → (Contains images n → ⊥) → (Contains m.nodes n → ⊥) → node_at h n ≡ node_at g n
  pub deleted_edges : (e : ℕ) → Contains m.edges e → edge_at h e ≡ None
  pub other_edges : (e : ℕ) → ((k : ℕ) → k < length r.right_edges → e ≡ g.next_edge + k → ⊥) → (Contains m.edges e → ⊥) → edge_at h e ≡ edge_at g e

-- one such step by an applying match
abbrev pub StepAnew : Rule → Graph → Found → Graph → Type 0
StepAnew r g m h = (a : Assignment) × AppliesBy r g m a × StepAnewBy r g m a h

-- these matches are such steps, one after another
abbrev pub StepsAnewTo : List Rule → Graph → List Found → Graph → Type 0
StepsAnewTo rules g [] h = h ≡ g
StepsAnewTo rules g (m ∷ ms) h = (k : Graph) × (r : Rule) × (slice_get rules m.rule ≡ Some r) × StepAnew r g m k × StepsAnewTo rules k ms h

-- the trace leads from the one graph to the other by them
pub record ReplaysAnew (rules : List Rule) (g : Graph) (t : List Item) (h : Graph) : Type 0 where
  pub backs : BacksFit 0 t
  pub steps : StepsAnewTo rules g (live t) h
