-- After the step of an independent match, a match still applies, and makes what it made before.
use Rattle.std.proofs.Common.{inl, inr, ◌≡◌, ℕ, ◌<◌, ◌==◌, true, false, List, map, length, refl, sym, ap, subst, ◌∙◌, arith}
use Rattle.std.specs.Prelude.{◌⊎◌, ◌&&◌, ◌||◌, Option, Some, None, IsSomeAnd, Contains, slice_get, slice_index, slice_index_or}
use Rattle.std.specs.List.{list_any}
use Rattle.std.specs.Option.{option_map, option_map_or}
use Rattle.std.proofs.lemmas.Bool.{or_left, or_right, or_cases, and_parts, eqb-true}
use Rattle.std.proofs.lemmas.List.Folds.{list_any-append}
use Rattle.std.proofs.lemmas.Map.Keys.{any_passes_from_place}
use Rattle.std.proofs.lemmas.Option.{slice_get-map, slice_get_within}
use Rattle.gp_memory.proofs.Basics.{standing, stands_in}
use Rattle.gp_values.specs.Atoms.{same_list}
use Rattle.gp_values.specs.declared.marks.NodeMark.TheVariants as node_marks
use Rattle.gp_values.specs.declared.marks.EdgeMark.TheVariants as edge_marks
use Rattle.gp_values.specs.Graph.{Graph, Node, Edge, node_at, edge_at}
use Rattle.gp_syntax.specs.declared.kinds.VariableType.{VariableType}
use Rattle.gp_syntax.specs.Expression.{Expression, Number, Text, Variable, Negated, Dot, Empty, Join}
use Rattle.gp_syntax.specs.Value.{Assignment, value_of}
use Rattle.gp_syntax.specs.Truth.{has_mark}
use Rattle.gp_syntax.specs.Rule.{Rule, LeftNode, LeftEdge, RightNode, RightEdge, Found, IsKept}
use Rattle.gp_syntax.specs.Match.{FitsNode, FitsEdge, MatchBy, setting_of}
use Rattle.gp_syntax.specs.Step.{right_labels, made_mark, made_root, left_root, found_node, found_edge, MakesNode, MakesEdge, Applies, Step}
use Rattle.gp_syntax.specs.Simple.{IsText, IsSimple}
use Rattle.gp_syntax.specs.Typing.{type_in}
use Rattle.gp_syntax.specs.WellFormed.{IsWithin, IsWellFormed}
use Rattle.gp_syntax.proofs.Unique.{contained}
use Rattle.gp_step.specs.Laws.{IsNumbered}
use Rattle.gp_step.proofs.Wholes.{at_label, all_left, all_right}
use Rattle.gp_independence.specs.Independent.{has_degree, asks_edges, looks_around, Independent}
use Rattle.gp_step.proofs.Afters.{keeps_nodes, keeps_edges}
use Rattle.gp_independence.proofs.Frames.{some_at, at_some, found_below, Frame, frame, was, in_same, out_same, any_same}
use Rattle.gp_independence.proofs.Values.{AlikeAround, value_same, truth_same, faults_same}

-- ---- simple labels ask of no degree

text_asks_none : (t : ℕ → VariableType) (e : Expression ℕ) → IsText t e → has_degree e ≡ true → ⊥
text_asks_none t (Text s) h k = absurd cc
text_asks_none t (Variable x) h k = absurd cc
text_asks_none t (Dot d e) h k = elim (or_cases (has_degree d) (has_degree e) k) [ inl l ↦ text_asks_none t d h.0 l | inr l ↦ text_asks_none t e h.1 l ]
text_asks_none t e h k = absurd h

simple_asks_none : (t : ℕ → VariableType) (e : Expression ℕ) → IsSimple t e → has_degree e ≡ true → ⊥
simple_asks_none t (Number z) h k = absurd cc
simple_asks_none t (Text s) h k = absurd cc
simple_asks_none t (Variable x) h k = absurd cc
simple_asks_none t (Negated (Number z)) h k = absurd cc
simple_asks_none t (Dot d e) h k = text_asks_none t (Dot d e) h k
simple_asks_none t Empty h k = absurd cc
simple_asks_none t (Join d e) h k = elim (or_cases (has_degree d) (has_degree e) k) [ inl l ↦ simple_asks_none t d h.0 l | inr l ↦ simple_asks_none t e h.1 l ]
simple_asks_none t e h k = absurd h

-- ---- labels by their places

abbrev left_node_label : LeftNode → Expression ℕ
left_node_label p = p.label

abbrev left_edge_label : LeftEdge → Expression ℕ
left_edge_label p = p.label

abbrev right_node_label : RightNode → Expression ℕ
right_node_label p = p.label

abbrev right_edge_label : RightEdge → Expression ℕ
right_edge_label p = p.label

abbrev Within : Rule → Expression ℕ → Type 0
Within s e = IsWithin (length s.types) (length s.left_nodes) e

abbrev Simple : Rule → Expression ℕ → Type 0
Simple s e = IsSimple (type_in s.types) e

labels_ask : (s : Rule) → (list_any has_degree (map right_node_label s.right_nodes) || list_any has_degree (map right_edge_label s.right_edges)) ≡ true → list_any has_degree (right_labels s) ≡ true
labels_ask s h = list_any-append has_degree (map right_node_label s.right_nodes) (map right_edge_label s.right_edges) ∙ h

in_map : {X : Type 0} (f : X → Expression ℕ) (xs : List X) (j : ℕ) (x : X) → slice_get xs j ≡ Some x → slice_get (map f xs) j ≡ Some (f x)
in_map f xs j x e = slice_get-map f xs j ∙ ap (option_map f) e

module _ {r s : Rule} {g h : Graph} {m n : Found} (wr : IsWellFormed r) (ws : IsWellFormed s) (whole : IsNumbered g) (i : Independent r s g m n) (t : Step r g m h) where
  abbrev left_behind : Frame g h m.nodes m.edges
  left_behind = frame wr whole t.1.is_match t.2

  module _ (b : Assignment) (w : MatchBy s g n b) where
    at_node : (j : ℕ) → j < length s.left_nodes → j < length n.nodes
    at_node j l = let k : length n.nodes ≡ length s.left_nodes = w.node_count in omega arith

    below : (j : ℕ) → j < length s.left_nodes → slice_index n.nodes j < g.next_node
    below j l = (keeps_nodes s g n b whole w ws).below j (at_node j l)

    -- what stands at its images is what stood there
    pub node_stays : (j : ℕ) → j < length s.left_nodes → node_at h (slice_index n.nodes j) ≡ node_at g (slice_index n.nodes j)
    node_stays j l =
        elim (contained m.nodes (slice_index n.nodes j)) [
          | inl c ↦ (let e = standing m.nodes (slice_index n.nodes j) c in
              subst (λ z. node_at h z ≡ node_at g z) e ((i.nodes c.0 j c.1 (at_node j l) e).0.carries h t))
          | inr out ↦ left_behind.nodes (slice_index n.nodes j) (below j l) out
        ]

    pub edge_stays : (k : ℕ) → k < length s.left_edges → edge_at h (slice_index n.edges k) ≡ edge_at g (slice_index n.edges k)
    edge_stays k l =
        let c : length n.edges ≡ length s.left_edges = w.edge_count in
        let p = stands_in n.edges k (slice_index n.edges k) (omega arith) refl in
        left_behind.edges (slice_index n.edges k) (found_below (keeps_edges s g n b whole w ws) (slice_index n.edges k) p) (λ q. i.edges (slice_index n.edges k) q p)

    -- and where the rule asks of edges, so are the edges around them
    alike : looks_around s ≡ true → AlikeAround g h n.nodes (length s.left_nodes)
    alike looks =
        let apart = i.apart (or_right (looks_around r) (looks_around s) looks) in
        let out : (j : ℕ) → j < length s.left_nodes → Contains m.nodes (slice_index n.nodes j) → ⊥ = λ j l c. apart (slice_index n.nodes j) c (stands_in n.nodes j (slice_index n.nodes j) (at_node j l) refl) in
        record {
          into = λ j l. in_same whole left_behind (slice_index n.nodes j) (below j l) (out j l);
          out_of = λ j l. out_same whole left_behind (slice_index n.nodes j) (below j l) (out j l);
          between = λ j k l. any_same whole left_behind (slice_index n.nodes j) (below j l) (out j l)
              (λ (d : Edge). d.source == slice_index n.nodes j && d.target == slice_index n.nodes k)
              (λ d e. inl (eqb-true d.source (slice_index n.nodes j) (and_parts (d.source == slice_index n.nodes j) (d.target == slice_index n.nodes k) e).0));
          between_with = λ j k v mark l. any_same whole left_behind (slice_index n.nodes j) (below j l) (out j l)
              (λ (d : Edge). (d.source == slice_index n.nodes j && d.target == slice_index n.nodes k) && (same_list d.label v && has_mark mark d.mark))
              (λ d e. inl (eqb-true d.source (slice_index n.nodes j) (and_parts (d.source == slice_index n.nodes j) (d.target == slice_index n.nodes k)
              (and_parts (d.source == slice_index n.nodes j && d.target == slice_index n.nodes k) (same_list d.label v && has_mark mark d.mark) e).0).0));
        }

    value_stays : (e : Expression ℕ) → IsWithin (length s.types) (length s.left_nodes) e → (has_degree e ≡ true → looks_around s ≡ true) → value_of e (setting_of s h n b) ≡ value_of e (setting_of s g n b)
    value_stays e within k = value_same s.types b n.nodes g h (length s.types) (length s.left_nodes) e within (λ d. alike (k d))

    left_value : (e : Expression ℕ) → IsWithin (length s.types) (length s.left_nodes) e → IsSimple (type_in s.types) e → value_of e (setting_of s h n b) ≡ value_of e (setting_of s g n b)
    left_value e within simple = value_stays e within (λ d. absurd (simple_asks_none (type_in s.types) e simple d))

    node_fits : (j : ℕ) (p : LeftNode) → slice_get s.left_nodes j ≡ Some p → IsSomeAnd (node_at h (slice_index n.nodes j)) (FitsNode (setting_of s h n b) p)
    node_fits j p e =
        let x = some_at _ _ (w.nodes j p e) in
        let k = in_map left_node_label s.left_nodes j p e in
        let v = left_value p.label (all_left (Within s) (map left_node_label s.left_nodes) (map left_edge_label s.left_edges) ws.left_labels_within j p.label k) (all_left (Simple s) (map left_node_label s.left_nodes) (map left_edge_label s.left_edges) ws.left_labels_simple j p.label k) in
        at_some (FitsNode (setting_of s h n b) p) (node_at h (slice_index n.nodes j)) x.0 (node_stays j (slice_get_within s.left_nodes j p e) ∙ x.1)
        (record { label = v ∙ x.2.label; mark = x.2.mark; root = x.2.root })

    edge_fits : (j : ℕ) (p : LeftEdge) → slice_get s.left_edges j ≡ Some p → IsSomeAnd (edge_at h (slice_index n.edges j)) (FitsEdge (setting_of s h n b) p (slice_index_or n.reversed j false))
    edge_fits j p e =
        let x = some_at _ _ (w.edges j p e) in
        let k = in_map left_edge_label s.left_edges j p e in
        let v = left_value p.label
        (at_label (Within s) (map left_edge_label s.left_edges) (all_right (Within s) (map left_node_label s.left_nodes) (map left_edge_label s.left_edges) ws.left_labels_within) j p.label k)
        (at_label (Simple s) (map left_edge_label s.left_edges) (all_right (Simple s) (map left_node_label s.left_nodes) (map left_edge_label s.left_edges) ws.left_labels_simple) j p.label k) in
        at_some (FitsEdge (setting_of s h n b) p (slice_index_or n.reversed j false)) (edge_at h (slice_index n.edges j)) x.0 (edge_stays j (slice_get_within s.left_edges j p e) ∙ x.1)
        (record { source = x.2.source; target = x.2.target; label = v ∙ x.2.label; mark = x.2.mark; direction = x.2.direction })

    none_hangs : (j e : ℕ) (d : Edge) → j < length s.left_nodes → (IsKept s j → ⊥) → edge_at h e ≡ Some d → (d.source ≡ slice_index n.nodes j) ⊎ (d.target ≡ slice_index n.nodes j) → Contains n.edges e
    none_hangs j e d l gone there touch =
        let out : Contains m.nodes (slice_index n.nodes j) → ⊥ = λ c. gone (i.nodes c.0 j c.1 (at_node j l) (standing m.nodes (slice_index n.nodes j) c)).1.kept in
        w.dangling j e d l gone (was whole left_behind (slice_index n.nodes j) (below j l) out e d there touch) touch

    pub match_stays : MatchBy s h n b
    match_stays = record {
      node_count = w.node_count;
      edge_count = w.edge_count;
      direction_count = w.direction_count;
      nodes_apart = w.nodes_apart;
      edges_apart = w.edges_apart;
      variable_count = w.variable_count;
      in_types = w.in_types;
      nodes = node_fits;
      edges = edge_fits;
      dangling = none_hangs;
    }

    -- ---- what the right side is to carry

    right_value : (e : Expression ℕ) → IsWithin (length s.types) (length s.left_nodes) e → (has_degree e ≡ true → list_any has_degree (right_labels s) ≡ true) → value_of e (setting_of s h n b) ≡ value_of e (setting_of s g n b)
    right_value e within k = value_stays e within (λ d. or_right (asks_edges s.condition) (list_any has_degree (right_labels s)) (k d))

    found_stays : (from : Option ℕ) → ((j : ℕ) → from ≡ Some j → j < length s.left_nodes) → found_node h n from ≡ found_node g n from
    found_stays None within = refl
    found_stays (Some j) within = node_stays j (within j refl)

    found_edge_stays : (from : Option ℕ) → ((j : ℕ) → from ≡ Some j → j < length s.left_edges) → found_edge h n from ≡ found_edge g n from
    found_edge_stays None within = refl
    found_edge_stays (Some j) within = edge_stays j (within j refl)

    pub node_makes : (j : ℕ) (q : RightNode) (y : Node) → slice_get s.right_nodes j ≡ Some q → MakesNode s h n b q y → MakesNode s g n b q y
    node_makes j q y e k =
        let l = in_map right_node_label s.right_nodes j q e in
        let f = found_stays q.origin (λ c o. ws.origins j c q e o) in
        let v = right_value q.label (all_left (Within s) (map right_node_label s.right_nodes) (map right_edge_label s.right_edges) ws.right_labels_within j q.label l)
        (λ d. labels_ask s (or_left (list_any has_degree (map right_node_label s.right_nodes)) (list_any has_degree (map right_edge_label s.right_edges)) (any_passes_from_place has_degree (map right_node_label s.right_nodes) j q.label l d))) in
        record {
          label = sym v ∙ k.label;
          mark = k.mark ∙ ap (λ z. made_mark q.mark (option_map (λ (x : Node). x.mark) z) node_marks.None) f;
          root = k.root ∙ ap (λ z. made_root (left_root s q.origin) q.root (option_map_or (λ (x : Node). x.root) z false)) f;
        }

    pub edge_makes : (j : ℕ) (q : RightEdge) (is : List ℕ) (y : Edge) → slice_get s.right_edges j ≡ Some q → MakesEdge s h n b is q y → MakesEdge s g n b is q y
    edge_makes j q is y e k =
        let l = in_map right_edge_label s.right_edges j q e in
        let f = found_edge_stays q.origin (λ c o. ws.edge_origins j c q e o) in
        let v = right_value q.label (at_label (Within s) (map right_edge_label s.right_edges) (all_right (Within s) (map right_node_label s.right_nodes) (map right_edge_label s.right_edges) ws.right_labels_within) j q.label l)
        (λ d. labels_ask s (or_right (list_any has_degree (map right_node_label s.right_nodes)) (list_any has_degree (map right_edge_label s.right_edges)) (any_passes_from_place has_degree (map right_edge_label s.right_edges) j q.label l d))) in
        record {
          source = k.source;
          target = k.target;
          label = sym v ∙ k.label;
          mark = k.mark ∙ ap (λ z. made_mark q.mark (option_map (λ (x : Edge). x.mark) z) edge_marks.None) f;
        }

  pub applies_stays : Applies s g n → Applies s h n
  applies_stays k =
      let b = k.0 in
      let w = k.1.is_match in (
        b,
        record {
          is_match = match_stays b w;
          condition = truth_same s.types b n.nodes g h (length s.types) (length s.left_nodes) s.condition ws.condition_within (λ d. alike b w (or_left (asks_edges s.condition) (list_any has_degree (right_labels s)) d)) ∙ k.1.condition;
          values = faults_same s.types b n.nodes g h (length s.types) (length s.left_nodes) (right_labels s) ws.right_labels_within (λ d. alike b w (or_right (asks_edges s.condition) (list_any has_degree (right_labels s)) d)) ∙ k.1.values;
        },
      )
