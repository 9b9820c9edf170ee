-- The edits of a step lead to the graph that the relation asks.
use Rattle.std.proofs.Common.{◌≡◌, ℕ, zero, suc, ◌<◌, List, [], ◌∷◌, ◌++◌, map, length, Option, Some, None, IsSome, slice_get, slice_index, refl, sym, ap, subst, ◌∙◌, arith}
use Rattle.std.specs.Option.{option_map}
use Rattle.std.proofs.lemmas.Option.{none-some, slice_get-map}
use Rattle.gp_memory.proofs.Basics.{and_is_some as there, from_map, some_at as element, some_same}
use Rattle.gp_values.specs.declared.atom.Atom.{Atom}
use Rattle.gp_values.specs.Graph.{Graph, IsGraph, node_at, edge_at}
use Rattle.gp_syntax.specs.declared.kinds.NumberKind.{NumberKind}
use Rattle.gp_syntax.specs.Expression.{Expression}
use Rattle.gp_syntax.specs.Value.{Assignment, Setting, Valued, Value, NoValue, value_of}
use Rattle.gp_syntax.specs.Rule.{Rule, RightNode, RightEdge, Found, kept_edge, kept_nodes, kept_edges}
use Rattle.gp_syntax.specs.Match.{setting_of, MatchBy}
use Rattle.gp_syntax.specs.Step.{first_fault, kind_or, right_labels, Places, StepBy, Applies, Step}
use Rattle.gp_syntax.specs.WellFormed.{IsWellFormed}
use Rattle.gp_step.specs.Halves.{images_from}
use Rattle.gp_step.specs.Edits.{value_or_empty, made_node, made_edge, images_of, origin_of, stepped}
use Rattle.gp_step.specs.After.{after_at, after}
use Rattle.gp_step.specs.Laws.{IsNumbered}
use Rattle.gp_syntax.proofs.KeptEdges.{kept_edge_at}
use Rattle.gp_unify.proofs.Candidates.{is_candidate, one_step}
use Rattle.gp_step.proofs.Halves.{Keeps, places, stands, deleted, untouched}

-- ---- values of right labels

has_value : (v : Valued (List Atom)) (rest : Option NumberKind) → kind_or v rest ≡ None → (v ≡ Value (value_or_empty v)) × (rest ≡ None)
has_value (Value v) rest e = (refl, e)
has_value (NoValue k) rest e = absurd cc

pub has_values : (es : List (Expression ℕ)) (s : Setting) → first_fault es s ≡ None → (j : ℕ) (e : Expression ℕ) → slice_get es j ≡ Some e → value_of e s ≡ Value (value_or_empty (value_of e s))
has_values [] s h j e i = absurd (none-some e i)
has_values (c ∷ es) s h zero e i = subst (λ z. value_of z s ≡ Value (value_or_empty (value_of z s))) (some_same i) (has_value (value_of c s) (first_fault es s) h).0
has_values (c ∷ es) s h (suc j) e i = has_values es s (has_value (value_of c s) (first_fault es s) h).1 j e i

pub both_values : (es fs : List (Expression ℕ)) (s : Setting) → first_fault (es ++ fs) s ≡ None → (first_fault es s ≡ None) × (first_fault fs s ≡ None)
both_values [] fs s h = (refl, h)
both_values (e ∷ es) fs s h =
    let v = has_value (value_of e s) (first_fault (es ++ fs) s) h in
    let r = both_values es fs s v.1 in
    (rw v.0 r.0, r.1)

-- ---- the step

module _ (r : Rule) (g : Graph) (m : Found) (a : Assignment) (whole : IsNumbered g) (w : MatchBy r g m a) (o : IsWellFormed r) where
  -- images of left nodes and edges are there
  pub node_there : (i : ℕ) → i < length m.nodes → IsSome (node_at g (slice_index m.nodes i))
  node_there i l =
      let n : length m.nodes ≡ length r.left_nodes = w.node_count in
      let p = element r.left_nodes i (omega arith) in
      there _ _ (w.nodes i p.0 p.1)

  pub edge_there : (i : ℕ) → i < length m.edges → IsSome (edge_at g (slice_index m.edges i))
  edge_there i l =
      let n : length m.edges ≡ length r.left_edges = w.edge_count in
      let p = element r.left_edges i (omega arith) in
      there _ _ (w.edges i p.0 p.1)

  pub keeps_nodes : Keeps (kept_nodes r) m.nodes g.next_node
  keeps_nodes = record {
    within = λ j i h. let q = from_map origin_of r.right_nodes j (Some i) h in subst (λ n. i < n) (sym w.node_count) (o.origins j i q.0 q.1 q.2);
    once = λ j k i h l.
        let p = from_map origin_of r.right_nodes j (Some i) h in
        let q = from_map origin_of r.right_nodes k (Some i) l in
        o.origins_apart j k i p.0 q.0 p.1 q.1 p.2 q.2;
    apart = w.nodes_apart;
    below = λ i l. whole.nodes_below (slice_index m.nodes i) (node_there i l);
  }

  pub keeps_edges : Keeps (kept_edges r) m.edges g.next_edge
  keeps_edges = record {
    within = λ j i h.
        let q = from_map (kept_edge r) r.right_edges j (Some i) h in
        subst (λ n. i < n) (sym w.edge_count) (o.edge_origins j i q.0 q.1 (kept_edge_at r q.0 i q.2).3);
    once = λ j k i h l.
        let p = from_map (kept_edge r) r.right_edges j (Some i) h in
        let q = from_map (kept_edge r) r.right_edges k (Some i) l in
        o.edge_origins_apart j k i p.0 q.0 p.1 q.1 (kept_edge_at r p.0 i p.2).3 (kept_edge_at r q.0 i q.2).3;
    apart = w.edges_apart;
    below = λ i l. whole.edges_below (slice_index m.edges i) (edge_there i l);
  }

  pub node_places : Places (kept_nodes r) m.nodes g.next_node (images_of r g m)
  node_places = places (kept_nodes r) m.nodes g.next_node keeps_nodes

  pub steps : first_fault (right_labels r) (setting_of r g m a) ≡ None → StepBy r g m a (stepped r g m a)
  steps valued =
      let s = setting_of r g m a in
      let v = both_values (map (λ (q : RightNode). q.label) r.right_nodes) (map (λ (q : RightEdge). q.label) r.right_edges) s valued in
      let node = made_node r g m a in
      let edge = made_edge r g m a (images_of r g m) in
      record {
        images = images_of r g m;
        edge_images = images_from m.edges (kept_edges r) g.next_edge;
        places = node_places;
        edge_places = places (kept_edges r) m.edges g.next_edge keeps_edges;
        next_node = refl;
        next_edge = refl;
        right_nodes = λ j q h. (
          node q,
          stands m.nodes origin_of node r.right_nodes g.nodes g.next_node keeps_nodes j q h,
          record {
            label = has_values (map (λ (z : RightNode). z.label) r.right_nodes) s v.0 j q.label (slice_get-map (λ (z : RightNode). z.label) r.right_nodes j ∙ ap (option_map (λ (z : RightNode). z.label)) h);
            mark = refl;
            root = refl;
          },
        );
        right_edges = λ k q h. (
          edge q,
          stands m.edges (kept_edge r) edge r.right_edges g.edges g.next_edge keeps_edges k q h,
          record {
            source = refl;
            target = refl;
            label = has_values (map (λ (z : RightEdge). z.label) r.right_edges) s v.1 k q.label (slice_get-map (λ (z : RightEdge). z.label) r.right_edges k ∙ ap (option_map (λ (z : RightEdge). z.label)) h);
            mark = refl;
          },
        );
        deleted_nodes = deleted m.nodes origin_of node r.right_nodes g.nodes g.next_node keeps_nodes;
        other_nodes = untouched m.nodes origin_of node r.right_nodes g.nodes g.next_node keeps_nodes;
        deleted_edges = deleted m.edges (kept_edge r) edge r.right_edges g.edges g.next_edge keeps_edges;
        other_edges = untouched m.edges (kept_edge r) edge r.right_edges g.edges g.next_edge keeps_edges;
      }

-- ---- of a checked rule

pub numbered : (g : Graph) → IsGraph g → IsNumbered g
numbered g w = record { nodes_below = w.nodes_below; edges_below = w.edges_below }

pub leads_on : (r : Rule) (g : Graph) (m : Found) → IsWellFormed r → IsNumbered g → Applies r g m → Step r g m (after r g m)
unfolding after
leads_on r g m c whole k =
    let s = is_candidate c k.0 k.1.is_match in
    (k.0, k.1, subst (λ z. StepBy r g m k.0 (after_at r g m z)) (sym s) (steps r g m k.0 whole k.1.is_match c k.1.values))

pub applying_steps : (r : Rule) (g : Graph) (m : Found) → IsWellFormed r → IsGraph g → Applies r g m → Step r g m (after r g m)
applying_steps r g m c whole k = leads_on r g m c (numbered g whole) k

-- and nowhere else
pub only_steps : (r : Rule) (g : Graph) (m : Found) → IsWellFormed r → IsNumbered g → (h : Graph) → Step r g m h → h ≡ after r g m
only_steps r g m c whole h t = one_step r g m h (after r g m) c t (leads_on r g m c whole (t.0, t.1))
