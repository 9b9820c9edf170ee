-- The one assignment by which the labels of a left side are those at the images (Plump 2012, section 3: a match induces
-- at most one assignment).
use Rattle.std.specs.Prelude.{◌≡◌, ℕ, ◌<◌, true, length, slice_get, slice_index, Option, Some, None, IsSomeAnd}
use Rattle.gp_values.specs.Graph.{Graph, node_at, edge_at}
use Rattle.gp_syntax.specs.Assigned.{PartialAssignment, IsWhole, assigned_of}
use Rattle.gp_syntax.specs.Value.{Assignment, Value, value_of, is_of, type_at, assigned_at}
use Rattle.gp_syntax.specs.Rule.{Rule, LeftNode, LeftEdge, Found}
use Rattle.gp_syntax.specs.Match.{MatchBy, setting_of}

-- each left node and each left edge has an image, whose label is the left label's value; the values are of their types
pub record LabelsFit (r : Rule) (g : Graph) (m : Found) (a : Assignment) : Type 0 where
  pub node_count : length m.nodes ≡ length r.left_nodes
  pub edge_count : length m.edges ≡ length r.left_edges
  pub variable_count : length a ≡ length r.types
  pub in_types : (x : ℕ) → x < length r.types → is_of (type_at (setting_of r g m a) x) (assigned_at (setting_of r g m a) x) ≡ true
  pub nodes : (i : ℕ) (p : LeftNode) → slice_get r.left_nodes i ≡ Some p → IsSomeAnd (node_at g (slice_index m.nodes i)) (λ x. value_of p.label (setting_of r g m a) ≡ Value x.label)
  pub edges : (i : ℕ) (p : LeftEdge) → slice_get r.left_edges i ≡ Some p → IsSomeAnd (edge_at g (slice_index m.edges i)) (λ d. value_of p.label (setting_of r g m a) ≡ Value d.label)

-- by these values they fit, and by no others
pub record OneFits (r : Rule) (g : Graph) (m : Found) (p : PartialAssignment) : Type 0 where
  pub types : p.types ≡ r.types
  pub whole : IsWhole p
  pub fit : LabelsFit r g m (assigned_of p)
  pub alone : (a : Assignment) → LabelsFit r g m a → a ≡ assigned_of p

abbrev pub MayFit : Option PartialAssignment → Rule → Graph → Found → Type 0
MayFit None r g m = (a : Assignment) → LabelsFit r g m a → ⊥
MayFit (Some p) r g m = OneFits r g m p

-- the values by which a match is one are these
pub record IsAssignment (r : Rule) (a : Assignment) (p : PartialAssignment) : Type 0 where
  pub types : p.types ≡ r.types
  pub whole : IsWhole p
  pub values : assigned_of p ≡ a

abbrev pub IsThatOfMatch : Option PartialAssignment → Rule → Graph → Found → Type 0
IsThatOfMatch o r g m = (a : Assignment) → MatchBy r g m a → IsSomeAnd o (IsAssignment r a)
