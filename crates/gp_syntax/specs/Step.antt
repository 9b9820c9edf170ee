-- What an applying match makes of a graph: the double pushout with relabelling (Plump 2012, section 3: direct
-- derivations). The two sides share the interface and the edges that are kept: the images of the right side and what
-- the host has outside those of the left side cover the new graph, and meet in what is shared alone.
use Rattle.std.specs.Prelude.{◌≡◌, ◌⊎◌, ℕ, ◌+◌, ◌&&◌, ◌||◌, not, Bool, true, false, if◌then◌else◌, List, [], ◌∷◌, ◌++◌, map, take, length, count_by, slice_get, slice_index, slice_index_or, Option, Some, None, is_none, option_and_then, Contains}
use Rattle.std.specs.Option.{option_map, option_map_or}
use Rattle.gp_values.specs.declared.atom.Atom.{Atom}
use Rattle.gp_values.specs.declared.marks.NodeMark.TheVariants as node_marks
use Rattle.gp_values.specs.declared.marks.EdgeMark.TheVariants as edge_marks
use Rattle.gp_values.specs.Graph.{Graph, Node, Edge, node_at, edge_at}
use Rattle.gp_syntax.specs.declared.kinds.NumberKind.{NumberKind}
use Rattle.gp_syntax.specs.Expression.{Expression, MarkPattern, Marked, AnyMark}
use Rattle.gp_syntax.specs.Value.{Assignment, Setting, Valued, Value, NoValue, value_of}
use Rattle.gp_syntax.specs.Truth.{truth_of}
use Rattle.gp_syntax.specs.Rule.{Rule, LeftNode, RightNode, RightEdge, Found, differ, kept_nodes, kept_edges}
use Rattle.gp_values.specs.Apart.{AreApart}
use Rattle.gp_syntax.specs.Match.{MatchBy, setting_of}

-- ---- applying and faulty matches

-- the labels of the right side: nodes first, then edges, in text order
abbrev pub right_labels : Rule → List (Expression ℕ)
right_labels r = map (λ (q : RightNode). q.label) r.right_nodes ++ map (λ (q : RightEdge). q.label) r.right_edges

abbrev pub kind_or : Valued (List Atom) → Option NumberKind → Option NumberKind
kind_or (Value v) rest = rest
kind_or (NoValue k) rest = Some k

-- the kind of the first of them that has no value
abbrev pub first_fault : List (Expression ℕ) → Setting → Option NumberKind
first_fault [] s = None
first_fault (e ∷ es) s = kind_or (value_of e s) (first_fault es s)

-- the condition is true, and every right label has a value
pub record AppliesBy (r : Rule) (g : Graph) (m : Found) (a : Assignment) : Type 0 where
  pub is_match : MatchBy r g m a
  pub condition : truth_of r.condition (setting_of r g m a) ≡ Value true
  pub values : first_fault (right_labels r) (setting_of r g m a) ≡ None

abbrev pub Applies : Rule → Graph → Found → Type 0
Applies r g m = (a : Assignment) × AppliesBy r g m a

-- the condition has no value of that kind, or it is true and the first right label without a value has none of that kind
pub record FaultyBy (r : Rule) (g : Graph) (m : Found) (kind : NumberKind) (a : Assignment) : Type 0 where
  pub is_match : MatchBy r g m a
  pub cause : (truth_of r.condition (setting_of r g m a) ≡ NoValue kind)
      ⊎ ((truth_of r.condition (setting_of r g m a) ≡ Value true) × (first_fault (right_labels r) (setting_of r g m a) ≡ Some kind))

abbrev pub IsFaulty : Rule → Graph → Found → NumberKind → Type 0
IsFaulty r g m kind = (a : Assignment) × FaultyBy r g m kind a

-- ---- what stands at the images of the right side

-- `any` keeps the mark that was found
abbrev pub made_mark : {M : Type 0} → MarkPattern M → Option M → M → M
made_mark (Marked mark) found none = mark
made_mark AnyMark (Some found) none = found
made_mark AnyMark None none = none

-- A root of the right side is one. A root of the left side that is none on the right stops being one. Otherwise a node
-- of the interface stays as it was, and another is no root.
abbrev pub made_root : Bool → Bool → Bool → Bool
made_root left right found = right || (found && not left)

-- the left node, and the host's node, of a right node that the interface has
abbrev pub left_root : Rule → Option ℕ → Bool
left_root r origin = option_map_or (λ (p : LeftNode). p.root) (option_and_then (slice_get r.left_nodes) origin) false

abbrev pub found_node : Graph → Found → Option ℕ → Option Node
found_node g m origin = option_and_then (λ i. node_at g (slice_index m.nodes i)) origin

pub record MakesNode (r : Rule) (g : Graph) (m : Found) (a : Assignment) (q : RightNode) (x : Node) : Type 0 where
  pub label : value_of q.label (setting_of r g m a) ≡ Value x.label
  pub mark : x.mark ≡ made_mark q.mark (option_map (λ (y : Node). y.mark) (found_node g m q.origin)) node_marks.None
  pub root : x.root ≡ made_root (left_root r q.origin) q.root (option_map_or (λ (y : Node). y.root) (found_node g m q.origin) false)

-- the host's edge of a right edge whose name a left edge has
abbrev pub found_edge : Graph → Found → Option ℕ → Option Edge
found_edge g m origin = option_and_then (λ i. edge_at g (slice_index m.edges i)) origin

-- a right `(B)` edge begins at the name where the found edge began
abbrev pub is_exchanged : Found → RightEdge → Bool
is_exchanged m q = q.bidirectional && differ (option_map_or (λ i. slice_index_or m.reversed i false) q.origin false) q.turned

pub record MakesEdge (r : Rule) (g : Graph) (m : Found) (a : Assignment) (images : List ℕ) (q : RightEdge) (d : Edge) : Type 0 where
  pub source : d.source ≡ slice_index images (if is_exchanged m q then q.target else q.source)
  pub target : d.target ≡ slice_index images (if is_exchanged m q then q.source else q.target)
  pub label : value_of q.label (setting_of r g m a) ≡ Value d.label
  pub mark : d.mark ≡ made_mark q.mark (option_map (λ (y : Edge). y.mark) (found_edge g m q.origin)) edge_marks.None

-- ---- the step

-- images: an injective map of the nodes, or of the edges, of the right side. What is kept goes to the image of the left
-- item that it keeps, and the others in text order to the next numbers.
pub record Places (kept : List (Option ℕ)) (found : List ℕ) (next : ℕ) (images : List ℕ) : Type 0 where
  pub count : length images ≡ length kept
  pub apart : AreApart images
  pub old : (j i : ℕ) → slice_get kept j ≡ Some (Some i) → slice_index images j ≡ slice_index found i
  pub new : (j : ℕ) → slice_get kept j ≡ Some None → slice_index images j ≡ next + count_by is_none (take j kept)

-- the graph that the match leads to, by this assignment
pub record StepBy (r : Rule) (g : Graph) (m : Found) (a : Assignment) (h : Graph) : Type 0 where
  pub images : List ℕ
  pub edge_images : List ℕ
  pub places : Places (kept_nodes r) m.nodes g.next_node images
  pub edge_places : Places (kept_edges r) m.edges g.next_edge edge_images
  pub next_node : h.next_node ≡ g.next_node + count_by is_none (kept_nodes r)
  pub next_edge : h.next_edge ≡ g.next_edge + count_by is_none (kept_edges r)
  -- at the images of the right side stands what it says
  pub right_nodes : (j : ℕ) (q : RightNode) → slice_get r.right_nodes j ≡ Some q → (x : Node) × (node_at h (slice_index images j) ≡ Some x) × MakesNode r g m a q x
  pub right_edges : (k : ℕ) (q : RightEdge) → slice_get r.right_edges k ≡ Some q → (d : Edge) × (edge_at h (slice_index edge_images k) ≡ Some d) × MakesEdge r g m a images q d
  -- outside them is what the host has outside the images of the left side, with all that it carries
  pub deleted_nodes : (n : ℕ) → (Contains images n → ⊥) → Contains m.nodes n → node_at h n ≡ None
  pub other_nodes : (n : ℕ) → (Contains images n → ⊥) → (Contains m.nodes n → ⊥) → node_at h n ≡ node_at g n
  pub deleted_edges : (e : ℕ) → (Contains edge_images e → ⊥) → Contains m.edges e → edge_at h e ≡ None
  pub other_edges : (e : ℕ) → (Contains edge_images e → ⊥) → (Contains m.edges e → ⊥) → edge_at h e ≡ edge_at g e

-- one step by an applying match
abbrev pub Step : Rule → Graph → Found → Graph → Type 0
Step r g m h = (a : Assignment) × AppliesBy r g m a × StepBy r g m a h

-- ---- sets of rules, by the numbers of their rules in a program's list

-- one rule of the set makes the step
pub record CallsTo (rules : List Rule) (set : List ℕ) (g : Graph) (m : Found) (h : Graph) : Type 0 where
  pub in_set : Contains set m.rule
  pub rule : Rule
  pub is_rule : slice_get rules m.rule ≡ Some rule
  pub step : Step rule g m h

-- some rule of the set has a match that applies
pub record HasApplying (rules : List Rule) (set : List ℕ) (g : Graph) : Type 0 where
  pub found : Found
  pub in_set : Contains set found.rule
  pub rule : Rule
  pub is_rule : slice_get rules found.rule ≡ Some rule
  pub applies : Applies rule g found

-- no rule of the set has a match that applies or is faulty
pub record Blocked (rules : List Rule) (set : List ℕ) (g : Graph) : Type 0 where
  pub none_applies : (i : ℕ) (r : Rule) (m : Found) → Contains set i → slice_get rules i ≡ Some r → Applies r g m → ⊥
  pub none_faulty : (i : ℕ) (r : Rule) (m : Found) (kind : NumberKind) → Contains set i → slice_get rules i ≡ Some r → IsFaulty r g m kind → ⊥
