-- Which nodes it is enough to note where edges come up, go or change: both ends of such an edge, one of them, or none, by
-- what a rule looks at beside the images of its left side (Plump 2012, section 3: matches, the dangling condition, and the
-- conditions of rule schemata).
use Rattle.std.specs.Prelude.{◌≡◌, ◌⊎◌, ◌↔◌, ℕ, ◌<◌, ◌||◌, Bool, true, false, List, length, All, Contains, Some, slice_get}
use Rattle.gp_values.specs.declared.marks.EdgeMark.{EdgeMark}
use Rattle.gp_values.specs.Graph.{Graph, Node, Edge, node_at, edge_at}
use Rattle.gp_graph.specs.Walks.{BeginsAt, EndsAt}
use Rattle.gp_syntax.specs.Expression.{MarkPattern, Condition, Holds, HasType, HasEdge, HasEdgeWith, Compared, Not, And, Or}
use Rattle.gp_syntax.specs.Rule.{Rule, Found, IsKept}
use Rattle.gp_syntax.specs.Step.{Blocked}
use Rattle.gp_syntax.specs.WellFormed.{IsWellFormed}
use Rattle.gp_independence.specs.Independent.{has_degree, asks_edges}
use Rattle.gp_touch.specs.Touch.{AreSameAt, AppliesOrFails, ComesUp, LiesAt}

-- ---- what a rule looks at

-- `indeg` or `outdeg` stands in the condition. In left labels neither may stand, and in right labels they do not matter
-- here: a match whose condition is true applies or is faulty, whatever the values of the right labels are.
abbrev pub asks_degrees : Condition ℕ (MarkPattern EdgeMark) → Bool
asks_degrees Holds = false
asks_degrees (HasType type e) = has_degree e
asks_degrees (HasEdge a b) = false
asks_degrees (HasEdgeWith a b e mark) = has_degree e
asks_degrees (Compared op d e) = has_degree d || has_degree e
asks_degrees (Not c) = asks_degrees c
asks_degrees (And c d) = asks_degrees c || asks_degrees d
asks_degrees (Or c d) = asks_degrees c || asks_degrees d

-- The rule deletes no node, so that no edge can dangle, and its condition asks no degree. Of edges outside its match it sees,
-- by `edge`, those between images of its left nodes alone.
pub record SeesNoDegrees (r : Rule) : Type 0 where
  pub keeps : (i : ℕ) → i < length r.left_nodes → IsKept r i
  pub asks : asks_degrees r.condition ≡ false

-- Nor does its condition ask for edges: it sees the images of its left side, and nothing else of the graph.
pub record SeesItsImagesAlone (r : Rule) : Type 0 where
  pub keeps : (i : ℕ) → i < length r.left_nodes → IsKept r i
  pub asks : asks_edges r.condition ≡ false

-- ---- how two graphs differ

-- neither end is noted
abbrev pub IsUnnoted : (ℕ → Bool) → Edge → Type 0
IsUnnoted noted d = (noted d.source ≡ false) × (noted d.target ≡ false)

-- Of what the second graph has and the first has not, each node is noted, and of each edge one end, either one. What
-- changes counts as something that goes and something that comes up. What goes need not be noted.
pub record AddsNoted (noted : ℕ → Bool) (g h : Graph) : Type 0 where
  pub node : (n : ℕ) (x : Node) → noted n ≡ false → node_at h n ≡ Some x → node_at g n ≡ Some x
  pub edge : (e : ℕ) (d : Edge) → IsUnnoted noted d → edge_at h e ≡ Some d → edge_at g e ≡ Some d

-- So it is of what either graph has and the other has not: on the nodes that are not noted both have the same nodes, and the
-- same edges between these.
pub record DiffersAtNoted (noted : ℕ → Bool) (g h : Graph) : Type 0 where
  pub adds : AddsNoted noted g h
  pub takes : AddsNoted noted h g

-- the same edges begin at the node and the same end there, whatever they carry, and wherever their other ends are
pub record HasSameEnds (g h : Graph) (n : ℕ) : Type 0 where
  pub beginning : (e : ℕ) → BeginsAt g n e ↔ BeginsAt h n e
  pub ending : (e : ℕ) → EndsAt g n e ↔ EndsAt h n e

-- And both ends are noted of an edge that one graph has and the other has not. An edge that both have between the same nodes,
-- with another label or mark, needs one.
pub record DiffersAtEnds (noted : ℕ → Bool) (g h : Graph) : Type 0 where
  pub differs : DiffersAtNoted noted g h
  pub ends : (n : ℕ) → noted n ≡ false → HasSameEnds g h n

-- ---- matches that come up

-- A match that comes up has a left node at a noted node: of a rule that sees its images alone where what comes up is noted,
abbrev pub AddedAloneBringUp : Type 0
AddedAloneBringUp =
    (r : Rule) (g h : Graph) (m : Found) (noted : ℕ → Bool) → IsWellFormed r → SeesItsImagesAlone r → AddsNoted noted g h
    → ComesUp r g h m → LiesAt r m (λ n. noted n ≡ true)

-- of a rule that sees no degrees where one end of each edge that comes up, goes or changes is noted,
abbrev pub OneEndBringsUp : Type 0
OneEndBringsUp =
    (r : Rule) (g h : Graph) (m : Found) (noted : ℕ → Bool) → IsWellFormed r → SeesNoDegrees r → DiffersAtNoted noted g h
    → ComesUp r g h m → LiesAt r m (λ n. noted n ≡ true)

-- and of any rule where both ends are of each edge that comes up or goes, and one of each that is relabelled.
abbrev pub BothEndsBringUp : Type 0
BothEndsBringUp =
    (r : Rule) (g h : Graph) (m : Found) (noted : ℕ → Bool) → IsWellFormed r → DiffersAtEnds noted g h
    → ComesUp r g h m → LiesAt r m (λ n. noted n ≡ true)

-- ---- a set that was blocked

-- what is noted is enough for the rule
abbrev pub AreEnough : Rule → (ℕ → Bool) → Graph → Graph → Type 0
AreEnough r noted g h = (SeesItsImagesAlone r × AddsNoted noted g h) ⊎ ((SeesNoDegrees r × DiffersAtNoted noted g h) ⊎ DiffersAtEnds noted g h)

-- Where a set was blocked, each match of the set that applies or is faulty on another graph has a left node at a noted node.
abbrev pub NotedAloneUnblock : Type 0
NotedAloneUnblock =
    (rules : List Rule) (set : List ℕ) (g h : Graph) (noted : ℕ → Bool) → All IsWellFormed rules → Blocked rules set g
    → (i : ℕ) (r : Rule) (n : Found) → Contains set i → slice_get rules i ≡ Some r → AreEnough r noted g h → AppliesOrFails r h n
    → LiesAt r n (λ k. noted k ≡ true)

-- ---- what is noted one time after another

-- At a node where both graphs are the same nothing need be noted.
abbrev pub SameNeedNoNote : Type 0
SameNeedNoNote = (g h : Graph) (noted : ℕ → Bool) → ((n : ℕ) → noted n ≡ false → AreSameAt g h n) → DiffersAtEnds noted g h

-- What is noted from one graph to the next, and from that to a third, is enough together from the first to the third.
abbrev pub NotesAreJoined : ((ℕ → Bool) → Graph → Graph → Type 0) → Type 0
NotesAreJoined Differ =
    (g h k : Graph) (first second : ℕ → Bool) → Differ first g h → Differ second h k → Differ (λ n. first n || second n) g k
