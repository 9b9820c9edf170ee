-- Independent matches: neither step takes away or changes what the other match needs (Ehrig et al. 2006, section 3.3:
-- parallel independence; Habel and Plump 2002: rules that relabel).
use Rattle.std.specs.Prelude.{◌≡◌, ℕ, ◌<◌, ◌||◌, Bool, true, false, length, slice_index, Contains}
use Rattle.std.specs.List.{list_any}
use Rattle.gp_values.specs.declared.marks.EdgeMark.{EdgeMark}
use Rattle.gp_values.specs.Graph.{Graph, node_at}
use Rattle.gp_syntax.specs.Expression.{Expression, In_degree, Out_degree, Negated, Plus, Minus, Times, Over, Dot, Join, MarkPattern, Condition, Holds, HasType, HasEdge, HasEdgeWith, Compared, Not, And, Or}
use Rattle.gp_syntax.specs.Rule.{Rule, Found, IsKept}
use Rattle.gp_syntax.specs.Step.{Applies, Step, right_labels}

-- ---- rules that ask of edges outside their match

-- `indeg` or `outdeg` stands in the expression
abbrev pub has_degree : Expression ℕ → Bool
has_degree (In_degree n) = true
has_degree (Out_degree n) = true
has_degree (Negated e) = has_degree e
has_degree (Plus d e) = has_degree d || has_degree e
has_degree (Minus d e) = has_degree d || has_degree e
has_degree (Times d e) = has_degree d || has_degree e
has_degree (Over d e) = has_degree d || has_degree e
has_degree (Dot d e) = has_degree d || has_degree e
has_degree (Join d e) = has_degree d || has_degree e
has_degree other = false

-- `indeg`, `outdeg` or `edge` stands in the condition
abbrev pub asks_edges : Condition ℕ (MarkPattern EdgeMark) → Bool
asks_edges Holds = false
asks_edges (HasType type e) = has_degree e
asks_edges (HasEdge a b) = true
asks_edges (HasEdgeWith a b e mark) = true
asks_edges (Compared op d e) = has_degree d || has_degree e
asks_edges (Not c) = asks_edges c
asks_edges (And c d) = asks_edges c || asks_edges d
asks_edges (Or c d) = asks_edges c || asks_edges d

-- or one of them stands anywhere in the rule; in labels of the left side none may stand
abbrev pub looks_around : Rule → Bool
looks_around r = asks_edges r.condition || list_any has_degree (right_labels r)

-- ---- independent matches

-- the left node of this place is in the interface, and the step leaves its image with the list, the mark and the root
-- that it has
pub record Preserves (r : Rule) (g : Graph) (m : Found) (i : ℕ) : Type 0 where
  pub kept : IsKept r i
  pub carries : (h : Graph) → Step r g m h → node_at h (slice_index m.nodes i) ≡ node_at g (slice_index m.nodes i)

-- Both apply. They share no edge, be it kept or not. They may share a node where both steps preserve it, but none where
-- a rule asks of edges outside its match.
pub record Independent (r s : Rule) (g : Graph) (m n : Found) : Type 0 where
  pub first : Applies r g m
  pub second : Applies s g n
  pub edges : (e : ℕ) → Contains m.edges e → Contains n.edges e → ⊥
  pub nodes : (i j : ℕ) → i < length m.nodes → j < length n.nodes → slice_index m.nodes i ≡ slice_index n.nodes j → Preserves r g m i × Preserves s g n j
  pub apart : (looks_around r || looks_around s) ≡ true → (k : ℕ) → Contains m.nodes k → Contains n.nodes k → ⊥
