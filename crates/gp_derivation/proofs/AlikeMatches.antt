-- What applies on a graph applies on one that is alike, at the numbers that its edges have there.
use Rattle.std.proofs.Common.{◌≡◌, inl, inr, ℕ, ◌<◌, pos, false, if◌then◌else◌, List, [], ◌∷◌, map, length, slice_index, slice_index_or, IsSome, Contains, refl, sym, ap, subst, ◌∙◌, arith}
use Rattle.std.specs.Prelude.{not, neg_ℤ, true, ◌+ℤ◌, ◌-ℤ◌, ◌*ℤ◌, ◌++◌}
use Rattle.std.specs.FinMap.{get}
use Rattle.std.proofs.lemmas.List.{get_or-map, length-map}
use Rattle.std.proofs.lemmas.Option.{slice_get_within}
use Rattle.gp_memory.proofs.Basics.{and_is_some as is_some, and_some, some_and, some_at as element, standing}
use Rattle.gp_values.specs.declared.atom.Atom.TheVariants.{Str}
use Rattle.gp_values.specs.declared.marks.EdgeMark.{EdgeMark}
use Rattle.gp_values.specs.Graph.{Graph, node_at, edge_at}
use Rattle.gp_syntax.specs.declared.kinds.NumberKind.{NumberKind}
use Rattle.gp_syntax.specs.declared.kinds.VariableType.{VariableType}
use Rattle.gp_syntax.specs.Expression.{Expression, Number, Text, Variable, In_degree, Out_degree, Length_of, Negated, Plus, Minus, Times, Over, Dot, Empty, Join, MarkPattern, Condition, Holds, HasType, HasEdge, HasEdgeWith, Compared, Not, And, Or}
use Rattle.gp_syntax.specs.Value.{Assignment, Setting, Value, ◌>>=◌, value_of, is_of, integer, characters, number, ranged, quotient}
use Rattle.gp_syntax.specs.Truth.{truth_of, compared}
use Rattle.gp_syntax.specs.Rule.{Rule, Found}
use Rattle.gp_syntax.specs.Match.{MatchBy, FitsNode, FitsEdge, setting_of}
use Rattle.gp_syntax.specs.Step.{AppliesBy, FaultyBy, Blocked, first_fault, kind_or, right_labels}
use Rattle.gp_graph.specs.Walks.{Walks}
use Rattle.gp_derivation.specs.Upgrade.{AreAlike}
use Rattle.gp_derivation.proofs.Alike.{Walks-map, in_degree_alike, out_degree_alike, has_edge_alike, has_edge_with_alike}

-- ---- values and conditions

module _ {g h : Graph} (w : AreAlike g h) (types : List VariableType) (a : Assignment) (images : List ℕ) where
  abbrev over : Graph → Setting
  over k = record { types = types; assigned = a; images = images; graph = k }

  value_alike : (e : Expression ℕ) → value_of e (over g) ≡ value_of e (over h)
  value_alike (Number z) = refl
  value_alike (Text t) = refl
  value_alike (Variable x) = refl
  value_alike (In_degree v) = ap (λ n. Value (number (pos n))) (in_degree_alike g h w (slice_index images v))
  value_alike (Out_degree v) = ap (λ n. Value (number (pos n))) (out_degree_alike g h w (slice_index images v))
  value_alike (Length_of x) = refl
  value_alike (Negated e) = λ i. value_alike e i >>= λ x. ranged (neg_ℤ (integer x))
  value_alike (Plus d e) = λ i. value_alike d i >>= λ x. value_alike e i >>= λ y. ranged (integer x +ℤ integer y)
  value_alike (Minus d e) = λ i. value_alike d i >>= λ x. value_alike e i >>= λ y. ranged (integer x -ℤ integer y)
  value_alike (Times d e) = λ i. value_alike d i >>= λ x. value_alike e i >>= λ y. ranged (integer x *ℤ integer y)
  value_alike (Over d e) = λ i. value_alike d i >>= λ x. value_alike e i >>= λ y. quotient (integer x) (integer y)
  value_alike (Dot d e) = λ i. value_alike d i >>= λ x. value_alike e i >>= λ y. Value (Str (characters x ++ characters y) ∷ [])
  value_alike Empty = refl
  value_alike (Join d e) = λ i. value_alike d i >>= λ x. value_alike e i >>= λ y. Value (x ++ y)

  truth_alike : (c : Condition ℕ (MarkPattern EdgeMark)) → truth_of c (over g) ≡ truth_of c (over h)
  truth_alike Holds = refl
  truth_alike (HasType type e) = λ i. value_alike e i >>= λ v. Value (is_of type v)
  truth_alike (HasEdge x y) = ap (λ b. Value b) (has_edge_alike g h w (slice_index images x) (slice_index images y))
  truth_alike (HasEdgeWith x y e mark) = λ i. value_alike e i >>= λ v. Value (has_edge_with_alike g h w (slice_index images x) (slice_index images y) v mark i)
  truth_alike (Compared op d e) = λ i. value_alike d i >>= λ v. value_alike e i >>= λ x. Value (compared op v x)
  truth_alike (Not c) = λ i. truth_alike c i >>= λ x. Value (not x)
  truth_alike (And c d) = λ i. truth_alike c i >>= λ x. if x then truth_alike d i else Value false
  truth_alike (Or c d) = λ i. truth_alike c i >>= λ x. if x then Value true else truth_alike d i

  fault_alike : (es : List (Expression ℕ)) → first_fault es (over g) ≡ first_fault es (over h)
  fault_alike [] = refl
  fault_alike (e ∷ es) = λ i. kind_or (value_alike e i) (fault_alike es i)

-- ---- matches

module _ {g h : Graph} (w : AreAlike g h) (r : Rule) (m : Found) (a : Assignment) where
  -- the match at the numbers of the other graph
  abbrev there : Found
  there = record m { edges = map w.renumbered m.edges }

  value_there : (e : Expression ℕ) → value_of e (setting_of r h there a) ≡ value_of e (setting_of r g m a)
  value_there e = sym (value_alike w r.types a m.nodes e)

  module _ (c : MatchBy r g m a) where
    edge_here : (e : ℕ) → Contains m.edges e → IsSome (edge_at g e)
    edge_here e i =
        let l : i.0 < length m.edges = i.1 in
        let k : length m.edges ≡ length r.left_edges = c.edge_count in
        let p = element r.left_edges i.0 (omega arith) in
        subst (λ n. IsSome (edge_at g n)) (standing m.edges e i)
        (is_some (edge_at g (slice_index m.edges i.0)) (FitsEdge (setting_of r g m a) p.0 (slice_index_or m.reversed i.0 false)) (c.edges i.0 p.0 p.1))

    -- the images there are those of the images here
    images_there : Walks (map w.renumbered m.edges) (λ k. (e : ℕ) × Contains m.edges e × (w.renumbered e ≡ k))
    images_there =
        Walks-map w.renumbered (Contains m.edges) (λ k. (e : ℕ) × Contains m.edges e × (w.renumbered e ≡ k)) m.edges (record { once = c.edges_apart; each = λ k. (λ i. i, λ i. i) })
        (λ e i. (e, i, refl)) (λ k i. i) (λ e d i j. w.apart e d (edge_here e i) (edge_here d j))

    match_there : MatchBy r h there a
    match_there = record {
      node_count = c.node_count;
      edge_count = length-map m.edges w.renumbered ∙ c.edge_count;
      direction_count = c.direction_count;
      nodes_apart = c.nodes_apart;
      edges_apart = images_there.once;
      variable_count = c.variable_count;
      in_types = c.in_types;
      nodes = λ i p s.
          let x = some_and (node_at g (slice_index m.nodes i)) (FitsNode (setting_of r g m a) p) (c.nodes i p s) in
          and_some (node_at h (slice_index m.nodes i)) (FitsNode (setting_of r h there a) p) x.0 (ap (λ ns. get ns (slice_index m.nodes i)) w.nodes ∙ x.1)
          (record { label = value_there p.label ∙ x.2.label; mark = x.2.mark; root = x.2.root });
      edges = λ i p s.
          let l : i < length r.left_edges = slice_get_within r.left_edges i p s in
          let k : length m.edges ≡ length r.left_edges = c.edge_count in
          let b = slice_index_or m.reversed i false in
          let d = some_and (edge_at g (slice_index m.edges i)) (FitsEdge (setting_of r g m a) p b) (c.edges i p s) in
          let f = d.2 in
          and_some (edge_at h (slice_index (map w.renumbered m.edges) i)) (FitsEdge (setting_of r h there a) p b) d.0
          (ap (edge_at h) (get_or-map w.renumbered m.edges i 0 0 (omega arith)) ∙ w.to (slice_index m.edges i) d.0 d.1)
          (record { source = f.source; target = f.target; label = value_there p.label ∙ f.label; mark = f.mark; direction = f.direction });
      dangling = λ i k d l kept stands ends.
          let e = w.from k d stands in
          (images_there.each k).1 (e.0, c.dangling i e.0 d l kept e.1 ends, e.2);
    }

  applying_there : AppliesBy r g m a → AppliesBy r h there a
  applying_there c = record {
    is_match = match_there c.is_match;
    condition = sym (truth_alike w r.types a m.nodes r.condition) ∙ c.condition;
    values = sym (fault_alike w r.types a m.nodes (right_labels r)) ∙ c.values;
  }

  faulty_there : (kind : NumberKind) → FaultyBy r g m kind a → FaultyBy r h there kind a
  faulty_there kind c = record {
    is_match = match_there c.is_match;
    cause = elim c.cause [
      | inl e ↦ inl (sym (truth_alike w r.types a m.nodes r.condition) ∙ e)
      | inr e ↦ inr (sym (truth_alike w r.types a m.nodes r.condition) ∙ e.0, sym (fault_alike w r.types a m.nodes (right_labels r)) ∙ e.1)
    ];
  }

-- a set of rules that is blocked on a graph is blocked on one that is alike
pub blocked_alike : (rules : List Rule) (set : List ℕ) (g h : Graph) → AreAlike h g → Blocked rules set g → Blocked rules set h
blocked_alike rules set g h w b = record {
  none_applies = λ i r m c s p. b.none_applies i r (there w r m p.0) c s (p.0, applying_there w r m p.0 p.1);
  none_faulty = λ i r m kind c s p. b.none_faulty i r (there w r m p.0) kind c s (p.0, faulty_there w r m p.0 kind p.1);
}
