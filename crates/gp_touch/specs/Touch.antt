-- What a step touches, and which matches come up: each node that a step does not touch keeps what it carries and its edges,
-- so that a match whose left nodes lie elsewhere is one before the step and after it, with the same verdict (Plump 2012,
-- section 3: matches, the dangling condition and direct derivations).
use Rattle.std.specs.Prelude.{◌≡◌, ◌⊎◌, ◌↔◌, ℕ, ◌<◌, ◌≤◌, Bool, true, false, List, [], ◌∷◌, length, All, Contains, Some, slice_get, slice_index}
use Rattle.gp_values.specs.declared.atom.Atom.{Atom}
use Rattle.gp_values.specs.declared.marks.EdgeMark.{EdgeMark}
use Rattle.gp_values.specs.Graph.{Graph, Edge, node_at, edge_at, in_degree, out_degree}
use Rattle.gp_syntax.specs.declared.kinds.NumberKind.{NumberKind}
use Rattle.gp_syntax.specs.Expression.{MarkPattern}
use Rattle.gp_syntax.specs.Value.{Assignment}
use Rattle.gp_syntax.specs.Truth.{has_edge, has_edge_with}
use Rattle.gp_syntax.specs.Rule.{Rule, Found}
use Rattle.gp_syntax.specs.Match.{MatchBy}
use Rattle.gp_syntax.specs.Step.{Applies, IsFaulty, AppliesBy, FaultyBy, Step, Blocked}
use Rattle.gp_syntax.specs.Replay.{StepsTo}
use Rattle.gp_syntax.specs.WellFormed.{IsWellFormed}
use Rattle.gp_match.specs.Judge.{judged}
use Rattle.gp_step.specs.Laws.{IsNumbered}

-- ---- what steps touch

-- The node is the image of a left node, or of a right node. Those of right nodes are the kept ones and the new ones.
abbrev pub IsTouched : (r : Rule) (g : Graph) (m : Found) (h : Graph) → Step r g m h → ℕ → Type 0
IsTouched r g m h t n = Contains m.nodes n ⊎ Contains t.2.images n

-- one of these steps touches it
abbrev pub IsTouchedBy : (rules : List Rule) (g : Graph) (ms : List Found) (h : Graph) → StepsTo rules g ms h → ℕ → Type 0
IsTouchedBy rules g [] h t n = ⊥
IsTouchedBy rules g (m ∷ ms) h t n = IsTouched t.1 g m t.0 t.3 n ⊎ IsTouchedBy rules t.0 ms h t.4 n

-- The same by numbers: the node is the image of a left node of one of the matches, or it is new.
abbrev pub IsImageOrNew : Graph → List Found → Graph → ℕ → Type 0
IsImageOrNew g ms h n = ((m : Found) × Contains ms m × Contains m.nodes n) ⊎ ((g.next_node ≤ n) × (n < h.next_node))

abbrev pub TouchedAreNumbered : Type 0
TouchedAreNumbered =
    (rules : List Rule) (g h : Graph) (ms : List Found) → All IsWellFormed rules → IsNumbered g → (t : StepsTo rules g ms h)
    → (n : ℕ) → IsTouchedBy rules g ms h t n ↔ IsImageOrNew g ms h n

-- ---- all other nodes stay as they are

-- the edge begins or ends at the node
abbrev pub IsAt : Edge → ℕ → Type 0
IsAt d n = (d.source ≡ n) ⊎ (d.target ≡ n)

-- Both graphs have there the same node, or none, and the same edges at it, with all that they carry. So they have the same
-- degrees there, and tests for edges from it and to it have one answer.
pub record AreSameAt (g h : Graph) (n : ℕ) : Type 0 where
  pub node : node_at h n ≡ node_at g n
  pub edges : (e : ℕ) (d : Edge) → IsAt d n → (edge_at g e ≡ Some d) ↔ (edge_at h e ≡ Some d)
  pub into : in_degree h n ≡ in_degree g n
  pub out_of : out_degree h n ≡ out_degree g n
  pub edge_from : (k : ℕ) → has_edge h n k ≡ has_edge g n k
  pub edge_to : (k : ℕ) → has_edge h k n ≡ has_edge g k n
  pub edge_from_with : (k : ℕ) (v : List Atom) (mark : MarkPattern EdgeMark) → has_edge_with h n k v mark ≡ has_edge_with g n k v mark
  pub edge_to_with : (k : ℕ) (v : List Atom) (mark : MarkPattern EdgeMark) → has_edge_with h k n v mark ≡ has_edge_with g k n v mark

-- A node that the step does not touch is as it was.
abbrev pub UntouchedStay : Type 0
UntouchedStay =
    (r : Rule) (g h : Graph) (m : Found) → IsWellFormed r → IsNumbered g → (t : Step r g m h)
    → (n : ℕ) → (IsTouched r g m h t n → ⊥) → AreSameAt g h n

-- ---- and so do all other matches

-- By each assignment it is a match on both graphs or on neither, and it applies, or is faulty of a kind, on both or on neither.
pub record AreSameFor (r : Rule) (m : Found) (g h : Graph) : Type 0 where
  pub is_match : (a : Assignment) → MatchBy r g m a ↔ MatchBy r h m a
  pub applies : (a : Assignment) → AppliesBy r g m a ↔ AppliesBy r h m a
  pub faulty : (kind : NumberKind) (a : Assignment) → FaultyBy r g m kind a ↔ FaultyBy r h m kind a

-- Two graphs are the same for a match where they are the same at the images of its left nodes.
abbrev pub ImagesTell : Type 0
ImagesTell = (r : Rule) (g h : Graph) (m : Found) → IsWellFormed r → ((n : ℕ) → Contains m.nodes n → AreSameAt g h n) → AreSameFor r m g h

-- So all graphs are the same for a match of a rule without left nodes.
abbrev pub BareSeeNothing : Type 0
BareSeeNothing = (r : Rule) (g h : Graph) (m : Found) → IsWellFormed r → length r.left_nodes ≡ 0 → AreSameFor r m g h

-- And its verdicts are one.
abbrev pub SameAreJudgedAlike : Type 0
SameAreJudgedAlike = (r : Rule) (g h : Graph) (m : Found) → IsWellFormed r → AreSameFor r m g h → judged r h m ≡ judged r g m

-- A step leaves each match as it was that has no left node at a touched node.
abbrev pub OthersStay : Type 0
OthersStay =
    (r s : Rule) (g h : Graph) (m n : Found) → IsWellFormed r → IsWellFormed s → IsNumbered g → (t : Step r g m h)
    → ((k : ℕ) → Contains n.nodes k → IsTouched r g m h t k → ⊥) → AreSameFor s n g h

-- And so do steps one after another.
abbrev pub OthersStayLong : Type 0
OthersStayLong =
    (rules : List Rule) (s : Rule) (g h : Graph) (ms : List Found) (n : Found) → All IsWellFormed rules → IsWellFormed s → IsNumbered g
    → (t : StepsTo rules g ms h) → ((k : ℕ) → Contains n.nodes k → IsTouchedBy rules g ms h t k → ⊥) → AreSameFor s n g h

-- ---- matches that come up

-- the match applies, or it is faulty
abbrev pub AppliesOrFails : Rule → Graph → Found → Type 0
AppliesOrFails r g m = Applies r g m ⊎ ((kind : NumberKind) × IsFaulty r g m kind)

-- on the second graph, and not on the first
abbrev pub ComesUp : Rule → Graph → Graph → Found → Type 0
ComesUp r g h m = (AppliesOrFails r g m → ⊥) × AppliesOrFails r h m

-- some left node of the match lies at such a node
abbrev pub LiesAt : Rule → Found → (ℕ → Type 0) → Type 0
LiesAt r m P = (j : ℕ) × (j < length r.left_nodes) × P (slice_index m.nodes j)

-- Where nodes are noted, and two graphs are the same at all others, a match that comes up has a left node at a noted one. It
-- does not matter how the one graph came from the other.
abbrev pub NotedAloneBringUp : Type 0
NotedAloneBringUp =
    (r : Rule) (g h : Graph) (m : Found) (noted : ℕ → Bool) → IsWellFormed r → ((n : ℕ) → noted n ≡ false → AreSameAt g h n)
    → ComesUp r g h m → LiesAt r m (λ n. noted n ≡ true)

-- A match that steps bring up has a left node at a node that they touch,
abbrev pub TouchedAloneBringUp : Type 0
TouchedAloneBringUp =
    (rules : List Rule) (g h : Graph) (ms : List Found) (r : Rule) (n : Found) → All IsWellFormed rules → IsWellFormed r → IsNumbered g
    → (t : StepsTo rules g ms h) → ComesUp r g h n → LiesAt r n (IsTouchedBy rules g ms h t)

-- and so has one that comes up where they are taken back.
abbrev pub TouchedAloneBringBack : Type 0
TouchedAloneBringBack =
    (rules : List Rule) (g h : Graph) (ms : List Found) (r : Rule) (n : Found) → All IsWellFormed rules → IsWellFormed r → IsNumbered g
    → (t : StepsTo rules g ms h) → ComesUp r h g n → LiesAt r n (IsTouchedBy rules g ms h t)

-- Where a set was blocked, each match of the set that applies or is faulty after further steps has a left node at a node that
-- they touch.
abbrev pub TouchedAloneUnblock : Type 0
TouchedAloneUnblock =
    (rules : List Rule) (set : List ℕ) (g h : Graph) (ms : List Found) → All IsWellFormed rules → IsNumbered g → Blocked rules set g
    → (t : StepsTo rules g ms h) (i : ℕ) (r : Rule) (n : Found) → Contains set i → slice_get rules i ≡ Some r → AppliesOrFails r h n
    → LiesAt r n (IsTouchedBy rules g ms h t)

-- A rule of the set without left nodes has none, on any graph.
abbrev pub BareStayBlocked : Type 0
BareStayBlocked =
    (rules : List Rule) (set : List ℕ) (g h : Graph) → All IsWellFormed rules → Blocked rules set g
    → (i : ℕ) (r : Rule) (n : Found) → Contains set i → slice_get rules i ≡ Some r → length r.left_nodes ≡ 0 → AppliesOrFails r h n → ⊥
