-- Worked examples: what the definitions say of small rules and graphs, to be compared with what is meant.
use Rattle.std.specs.Prelude.{◌≡◌, ℕ, ℤ, pos, Bool, true, false, List, [], ◌∷◌, Some, None, codes}
use Rattle.std.specs.FinMap as map
use Rattle.gp_values.specs.declared.atom.Atom.{Atom}
use Rattle.gp_values.specs.declared.atom.Atom.TheVariants.{Int, Str}
use Rattle.gp_values.specs.declared.marks.EdgeMark.{EdgeMark}
use Rattle.gp_syntax.specs.declared.kinds.VariableType.{VariableType}
use Rattle.gp_values.specs.declared.marks.NodeMark.{NodeMark}
use Rattle.gp_values.specs.declared.marks.NodeMark.TheVariants as node_marks
use Rattle.gp_values.specs.declared.marks.EdgeMark.TheVariants as edge_marks
use Rattle.gp_values.specs.Graph.{Graph, Node, Edge}
use Rattle.gp_syntax.specs.declared.kinds.VariableType.TheVariants as types
use Rattle.gp_syntax.specs.Expression.{Expression, Number, Text, Variable, Plus, Dot, Join, Holds, MarkPattern, Marked, AnyMark}
use Rattle.gp_syntax.specs.Rule.{Rule, LeftNode, LeftEdge, RightNode, RightEdge, Found}
use Rattle.gp_syntax.specs.Share.{share_of}
use Rattle.gp_syntax.specs.Step.{Step, Blocked}
use Rattle.gp_syntax.specs.Run.{Call, Seq, If, Try, Loop, Or, Procedure, Skip, Fail, Break, Program, Stepped, Turned, Back, Gives, Fails, AtTurn, Run}

-- ---- graphs of one or two nodes

abbrev pub plain : ℤ → Node
plain z = record { label = Int z ∷ []; mark = node_marks.None; root = false }

abbrev pub edge : ℕ → ℕ → Edge
edge a b = record { source = a; target = b; label = []; mark = edge_marks.None }

-- node 0, and no edges
abbrev pub one_node : Node → Graph
one_node x = record { nodes = map.from_sorted ((0, x) ∷ []); edges = map.empty; next_node = 1; next_edge = 0 }

-- the same, when node 0 was deleted
abbrev pub no_nodes : Graph
no_nodes = record { nodes = map.empty; edges = map.empty; next_node = 1; next_edge = 0 }

-- node 0 with a loop
abbrev pub looped : Graph
looped = record { nodes = map.from_sorted ((0, plain (pos 1)) ∷ []); edges = map.from_sorted ((0, edge 0 0) ∷ []); next_node = 1; next_edge = 1 }

-- nodes 0 and 1, with these edges between them
abbrev pub two_nodes : List (ℕ × Edge) → ℕ → Graph
two_nodes edges next =
    record { nodes = map.from_sorted ((0, plain (pos 1)) ∷ (1, plain (pos 2)) ∷ []); edges = map.from_sorted edges; next_node = 2; next_edge = next }

-- ---- rules

abbrev pub unmarked : MarkPattern NodeMark
unmarked = Marked node_marks.None

abbrev pub left : Expression ℕ → MarkPattern NodeMark → Bool → LeftNode
left e mark root = record { label = e; mark = mark; root = root }

abbrev pub right : Expression ℕ → MarkPattern NodeMark → Bool → RightNode
right e mark root = record { origin = Some 0; label = e; mark = mark; root = root }

abbrev pub one_left : List VariableType → LeftNode → List RightNode → Rule
one_left kinds p qs = record { types = kinds; left_nodes = p ∷ []; left_edges = []; right_nodes = qs; right_edges = []; condition = Holds }

abbrev pub one_variable : LeftNode → List RightNode → Rule
one_variable p qs = one_left (types.List ∷ []) p qs

-- del(x:list) [ (n0, x) | ] => [ | ] interface = {}
abbrev pub del : Rule
del = one_variable (left (Variable 0) unmarked false) []

-- one(x:list) [ (n0, x) | ] => [ (n0, x) | ] interface = {n0}
abbrev pub one : Rule
one = one_variable (left (Variable 0) unmarked false) (right (Variable 0) unmarked false ∷ [])

-- unroot(x:list) [ (n0(R), x # any) | ] => [ (n0, x # any) | ] interface = {n0}
abbrev pub unroot : Rule
unroot = one_variable (left (Variable 0) AnyMark true) (right (Variable 0) AnyMark false ∷ [])

-- keep(x:list) [ (n0, x # any) | ] => [ (n0, 5 # any) | ] interface = {n0}
abbrev pub keep : Rule
keep = one_variable (left (Variable 0) AnyMark false) (right (Number (pos 5)) AnyMark false ∷ [])

-- red(x:list) [ (n0, x # red) | ] => [ (n0, x # red) | ] interface = {n0}
abbrev pub red : Rule
red = one_variable (left (Variable 0) (Marked node_marks.Red) false) (right (Variable 0) (Marked node_marks.Red) false ∷ [])

-- inc(n:int) [ (n0, n) | ] => [ (n0, n+1) | ] interface = {n0}
abbrev pub inc : Rule
inc = one_left (types.Int ∷ []) (left (Variable 0) unmarked false) (right (Plus (Variable 0) (Number (pos 1))) unmarked false ∷ [])

-- cut(s:string; c:char) [ (n0, "a".s.c) | ] => [ (n0, s:c) | ] interface = {n0}
abbrev pub cut : Rule
cut = one_left (types.String ∷ types.Char ∷ []) (left (Dot (Dot (Text (codes "a")) (Variable 0)) (Variable 1)) unmarked false) (right (Join (Variable 0) (Variable 1)) unmarked false ∷ [])

-- par(x,y,z,w:list) [ (n0, x) (n1, y) | (e0, n0, n1, z) (e1, n0, n1, w) ] => [ (n0, x) (n1, y) | ] interface = {n0, n1}
-- and with these edges on its right side
abbrev pub par_with : List RightEdge → Rule
par_with qs = record {
  types = types.List ∷ types.List ∷ types.List ∷ types.List ∷ [];
  left_nodes = left (Variable 0) unmarked false ∷ left (Variable 1) unmarked false ∷ [];
  left_edges = record { source = 0; target = 1; label = Variable 2; mark = Marked edge_marks.None; bidirectional = false }
      ∷ record { source = 0; target = 1; label = Variable 3; mark = Marked edge_marks.None; bidirectional = false } ∷ [];
  right_nodes = record { origin = Some 0; label = Variable 0; mark = unmarked; root = false } ∷ record { origin = Some 1; label = Variable 1; mark = unmarked; root = false } ∷ [];
  right_edges = qs;
  condition = Holds;
}

abbrev pub par : Rule
par = par_with []

-- two nodes that stay, with one edge on each side: (x,y,z:list) [ (n0, x) (n1, y) | (e0, .., z) ] => [ (n0, x) (n1, y) | (e0, ..) ]
abbrev pub one_edge : LeftEdge → RightEdge → Rule
one_edge p q = record {
  types = types.List ∷ types.List ∷ types.List ∷ [];
  left_nodes = left (Variable 0) unmarked false ∷ left (Variable 1) unmarked false ∷ [];
  left_edges = p ∷ [];
  right_nodes = record { origin = Some 0; label = Variable 0; mark = unmarked; root = false } ∷ record { origin = Some 1; label = Variable 1; mark = unmarked; root = false } ∷ [];
  right_edges = q ∷ [];
  condition = Holds;
}

abbrev pub unmarked_edge : MarkPattern EdgeMark
unmarked_edge = Marked edge_marks.None

-- (e0, n0, n1, z # mark) on the left, with `(B)` or without
abbrev pub left_edge : MarkPattern EdgeMark → Bool → LeftEdge
left_edge mark both = record { source = 0; target = 1; label = Variable 2; mark = mark; bidirectional = both }

-- the left edge of that place with the names n0, n1 on the right, and with them exchanged
abbrev pub as_written : ℕ → Expression ℕ → MarkPattern EdgeMark → Bool → RightEdge
as_written i e mark both = record { origin = Some i; turned = false; source = 0; target = 1; label = e; mark = mark; bidirectional = both }

abbrev pub exchanged : ℕ → Expression ℕ → MarkPattern EdgeMark → Bool → RightEdge
exchanged i e mark both = record { origin = Some i; turned = true; source = 1; target = 0; label = e; mark = mark; bidirectional = both }

-- ---- what they say

abbrev pub found : ℕ → List ℕ → List ℕ → List Bool → Found
found rule nodes edges reversed = record { rule = rule; reversed = reversed; nodes = nodes; edges = edges }

abbrev pub at_first : ℕ → Found
at_first rule = found rule (0 ∷ []) [] []

-- A node at an edge that is not matched is not deleted.
abbrev pub DanglingEdgeBlocks : Type 0
DanglingEdgeBlocks = Blocked (del ∷ []) (0 ∷ []) looped

-- A node without edges is.
abbrev pub IsolatedNodeIsDeleted : Type 0
IsolatedNodeIsDeleted = Step del (one_node (plain (pos 1))) (at_first 0) no_nodes

-- Two left edges take two parallel edges, and one is not enough.
abbrev pub OneEdgeIsNotTwo : Type 0
OneEdgeIsNotTwo = Blocked (par ∷ []) (0 ∷ []) (two_nodes ((0, edge 0 1) ∷ []) 1)

abbrev pub ParallelEdgesMatch : Type 0
ParallelEdgesMatch = Step par (two_nodes ((0, edge 0 1) ∷ (1, edge 0 1) ∷ []) 2) (found 0 (0 ∷ 1 ∷ []) (0 ∷ 1 ∷ []) (false ∷ false ∷ [])) (two_nodes [] 2)

-- A left root wants a root, which stops being one where the right side has none; another left node wants none.
abbrev pub rooted : Node
rooted = record { label = Int (pos 1) ∷ []; mark = node_marks.None; root = true }

abbrev pub RootWantsRoot : Type 0
RootWantsRoot = Blocked (unroot ∷ []) (0 ∷ []) (one_node (plain (pos 1)))

abbrev pub RootIsTakenAway : Type 0
RootIsTakenAway = Step unroot (one_node rooted) (at_first 0) (one_node (plain (pos 1)))

abbrev pub OtherWantsNoRoot : Type 0
OtherWantsNoRoot = Blocked (one ∷ []) (0 ∷ []) (one_node rooted)

-- `any` takes each mark, and keeps it.
abbrev pub marked : ℤ → NodeMark → Node
marked z mark = record { label = Int z ∷ []; mark = mark; root = false }

abbrev pub AnyKeepsMark : Type 0
AnyKeepsMark = (mark : NodeMark) → Step keep (one_node (marked (pos 1) mark)) (at_first 0) (one_node (marked (pos 5) mark))

-- A string is matched by its one string variable and its chars, and no other string and no integer is.
abbrev pub with_label : List Atom → Graph
with_label v = one_node (record { label = v; mark = node_marks.None; root = false })

pub record StringPatterns : Type 0 where
  pub shortest : Step cut (with_label (Str (codes "ab") ∷ [])) (at_first 0) (with_label (Str [] ∷ Str (codes "b") ∷ []))
  pub longer : Step cut (with_label (Str (codes "abc") ∷ [])) (at_first 0) (with_label (Str (codes "b") ∷ Str (codes "c") ∷ []))
  pub too_short : Blocked (cut ∷ []) (0 ∷ []) (with_label (Str (codes "a") ∷ []))
  pub no_string : Blocked (cut ∷ []) (0 ∷ []) (with_label (Int (pos 1) ∷ []))

-- ---- edges that are kept, and edges that are made

abbrev pub labelled : ℕ → ℕ → ℤ → EdgeMark → Edge
labelled a b z mark = record { source = a; target = b; label = Int z ∷ []; mark = mark }

-- edge 0 alone, and edge 1 alone, made in its place
abbrev pub before : Edge → Graph
before d = two_nodes ((0, d) ∷ []) 1

abbrev pub behind : Edge → Graph
behind d = two_nodes ((1, d) ∷ []) 2

abbrev pub over_edge : Bool → Found
over_edge reversed = found 0 (0 ∷ 1 ∷ []) (0 ∷ []) (reversed ∷ [])

-- A right edge with the name and the ends of a left one keeps its number and gets the right label and mark. No number is
-- used up.
abbrev pub KeptEdgeIsRelabelled : Type 0
KeptEdgeIsRelabelled = Step (one_edge (left_edge unmarked_edge false) (as_written 0 (Number (pos 5)) (Marked edge_marks.Red) false))
    (before (labelled 0 1 (pos 7) edge_marks.None)) (over_edge false) (before (labelled 0 1 (pos 5) edge_marks.Red))

-- With other ends it is another edge: the left one is removed, and it is made anew.
abbrev pub OtherEndsAreAnotherEdge : Type 0
OtherEndsAreAnotherEdge = Step (one_edge (left_edge unmarked_edge false) (exchanged 0 (Variable 2) unmarked_edge false))
    (before (labelled 0 1 (pos 7) edge_marks.None)) (over_edge false) (behind (labelled 1 0 (pos 7) edge_marks.None))

-- A `(B)` edge is matched in both directions and keeps its own, in whichever order the right side has the names.
pub record DirectionIsKept : Type 0 where
  pub forward : Step (one_edge (left_edge unmarked_edge true) (as_written 0 (Number (pos 5)) unmarked_edge true))
      (before (labelled 0 1 (pos 7) edge_marks.None)) (over_edge false) (before (labelled 0 1 (pos 5) edge_marks.None))
  pub reversed : Step (one_edge (left_edge unmarked_edge true) (as_written 0 (Number (pos 5)) unmarked_edge true))
      (before (labelled 1 0 (pos 7) edge_marks.None)) (over_edge true) (before (labelled 1 0 (pos 5) edge_marks.None))
  pub forward_exchanged : Step (one_edge (left_edge unmarked_edge true) (exchanged 0 (Number (pos 5)) unmarked_edge true))
      (before (labelled 0 1 (pos 7) edge_marks.None)) (over_edge false) (before (labelled 0 1 (pos 5) edge_marks.None))
  pub reversed_exchanged : Step (one_edge (left_edge unmarked_edge true) (exchanged 0 (Number (pos 5)) unmarked_edge true))
      (before (labelled 1 0 (pos 7) edge_marks.None)) (over_edge true) (before (labelled 1 0 (pos 5) edge_marks.None))

-- Where the right side has it without `(B)` it is another edge, which goes as it is written.
abbrev pub OneWayIsAnotherEdge : Type 0
OneWayIsAnotherEdge = Step (one_edge (left_edge unmarked_edge true) (as_written 0 (Variable 2) unmarked_edge false))
    (before (labelled 1 0 (pos 7) edge_marks.None)) (over_edge true) (behind (labelled 0 1 (pos 7) edge_marks.None))

-- `any` on an edge takes each mark, and keeps it.
abbrev pub AnyKeepsMarkOfEdge : Type 0
AnyKeepsMarkOfEdge = (mark : EdgeMark) → Step (one_edge (left_edge AnyMark false) (as_written 0 (Number (pos 5)) AnyMark false))
    (before (labelled 0 1 (pos 7) mark)) (over_edge false) (before (labelled 0 1 (pos 5) mark))

-- Of two parallel edges the one that the right side has is kept, and the other is removed.
abbrev pub KeptBesideRemoved : Type 0
KeptBesideRemoved = Step (par_with (as_written 1 (Variable 3) unmarked_edge false ∷ []))
    (two_nodes ((0, edge 0 1) ∷ (1, edge 0 1) ∷ []) 2) (found 0 (0 ∷ 1 ∷ []) (0 ∷ 1 ∷ []) (false ∷ false ∷ [])) (two_nodes ((1, edge 0 1) ∷ []) 2)

-- ---- shares

-- make() [ | ] => [ (n0, 0) | ] interface = {}
abbrev pub make : Rule
make = record { types = []; left_nodes = []; left_edges = []; right_nodes = record { origin = None; label = Number (pos 0); mark = unmarked; root = false } ∷ []; right_edges = []; condition = Holds }

-- [ (n0, x) (n1(R), y) | ]
abbrev pub second_root : Rule
second_root = record { types = types.List ∷ types.List ∷ []; left_nodes = left (Variable 0) unmarked false ∷ left (Variable 1) unmarked true ∷ []; left_edges = []; right_nodes = []; right_edges = []; condition = Holds }

-- A match is of the share of its image of the first left node, of the first left root where there is one, and of the
-- share 0 where the left side is empty.
pub record SharesGoByFirstNode : Type 0 where
  pub first_node : share_of del (found 0 (8 ∷ []) [] []) 3 ≡ 2
  pub first_root : share_of second_root (found 0 (8 ∷ 7 ∷ []) [] []) 3 ≡ 1
  pub no_node : share_of make (found 0 [] [] []) 3 ≡ 0

-- ---- what commands do, with the rules del, inc and red in one set each

abbrev pub program : Program
program = record { main = Skip; procedures = Call 1 ∷ Seq Skip Break ∷ []; sets = (0 ∷ []) ∷ (1 ∷ []) ∷ (2 ∷ []) ∷ [] ∷ []; rules = del ∷ inc ∷ red ∷ [] }

abbrev pub start : Graph
start = one_node (plain (pos 1))

abbrev pub raised : Graph
raised = one_node (plain (pos 2))

-- if del then skip else fail
abbrev pub IfTakesBack : Type 0
IfTakesBack = Run program (If (Call 0) Skip Fail) start [] (Stepped (at_first 0) ∷ Back 1 ∷ []) (Gives start)

-- try (del; fail) else skip
abbrev pub TryTakesBack : Type 0
TryTakesBack = Run program (Try (Seq (Call 0) Fail) Skip Skip) start [] (Stepped (at_first 0) ∷ Back 1 ∷ []) (Gives start)

-- (inc; red)!
abbrev pub FailedBodyIsTakenBack : Type 0
FailedBodyIsTakenBack = Run program (Loop (Seq (Call 1) (Call 2))) start [] (Turned ∷ Stepped (at_first 1) ∷ Back 1 ∷ []) (Gives start)

-- (inc; break)!
abbrev pub BreakKeepsBody : Type 0
BreakKeepsBody = Run program (Loop (Seq (Call 1) Break)) start [] (Turned ∷ Stepped (at_first 1) ∷ []) (Gives raised)

-- {}!
abbrev pub EmptySetEndsLoop : Type 0
EmptySetEndsLoop = Run program (Loop (Call 3)) start [] (Turned ∷ Back 0 ∷ []) (Gives start)

-- (skip)! stands before its second turn
abbrev pub SkipLoopStands : Type 0
SkipLoopStands = Run program (Loop Skip) start [] (Turned ∷ []) (AtTurn start)

-- try inc then inc, and if inc then inc: the `then` of `try` goes on from where the condition led
abbrev pub raised_twice : Graph
raised_twice = one_node (plain (pos 3))

pub record ThenBegins : Type 0 where
  pub of_try : Run program (Try (Call 1) (Call 1) Skip) start [] (Stepped (at_first 1) ∷ Stepped (at_first 1) ∷ []) (Gives raised_twice)
  pub of_if : Run program (If (Call 1) (Call 1) Skip) start [] (Stepped (at_first 1) ∷ Back 1 ∷ Stepped (at_first 1) ∷ []) (Gives raised)

-- if (del; fail) then fail else inc: `else` begins at the first graph
abbrev pub ElseBegins : Type 0
ElseBegins = Run program (If (Seq (Call 0) Fail) Fail (Call 1)) start [] (Stepped (at_first 0) ∷ Back 1 ∷ Stepped (at_first 1) ∷ []) (Gives raised)

-- fail; inc, and (break; inc)!: what stands behind is not begun
pub record FirstPartEnds : Type 0 where
  pub by_fail : Run program (Seq Fail (Call 1)) start [] [] (Fails start)
  pub by_break : Run program (Loop (Seq Break (Call 1))) start [] (Turned ∷ []) (Gives start)

-- skip or fail
pub record OrTakesEither : Type 0 where
  pub first : Run program (Or Skip Fail) start (false ∷ []) [] (Gives start)
  pub second : Run program (Or Skip Fail) start (true ∷ []) [] (Fails start)

-- P with P = inc; Q! with Q = (skip; break)
pub record ProceduresRun : Type 0 where
  pub called : Run program (Procedure 0) start [] (Stepped (at_first 1) ∷ []) (Gives raised)
  pub breaks : Run program (Loop (Procedure 1)) start [] (Turned ∷ []) (Gives start)
