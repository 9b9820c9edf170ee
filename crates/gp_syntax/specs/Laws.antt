-- What holds of matches, steps and runs, whoever makes them.
use Rattle.std.specs.Prelude.{◌≡◌, ◌↔◌, ℕ, ◌<◌, Bool, List, [], ◌++◌, length, slice_get, slice_index, Some, IsSomeAnd}
use Rattle.gp_values.specs.Graph.{Graph, Edge, edge_at}
use Rattle.gp_values.specs.Names.{Name}
use Rattle.gp_syntax.specs.declared.kinds.NumberKind.{NumberKind}
use Rattle.gp_syntax.specs.Expression.{Expression, renamed}
use Rattle.gp_syntax.specs.Value.{Assignment, Setting, Value, value_of}
use Rattle.gp_syntax.specs.Match.{Match, MatchBy}
use Rattle.gp_syntax.specs.Rule.{Rule, LeftEdge, RightNode, RightEdge, Found, kept_edge}
use Rattle.gp_syntax.specs.Step.{StepBy, Step, Applies, IsFaulty}
use Rattle.gp_syntax.specs.Run.{Command, Program, Item, Ending, graph_at, Run}
use Rattle.gp_syntax.specs.Replay.{Replays}
use Rattle.gp_syntax.specs.Declaration.{Declaration, IsWellNamed, rule_of}
use Rattle.gp_syntax.specs.Constant.{IsConstant, constant_of, HasNoArithmetic, IsFaultless}

-- A match leads, by an assignment, to one graph.
abbrev pub StepIsUnique : Type 0
StepIsUnique = (r : Rule) (g : Graph) (m : Found) (a : Assignment) (h k : Graph) → StepBy r g m a h → StepBy r g m a k → h ≡ k

-- And by any, where no variable stands in a left label.
abbrev pub StepWithoutVariablesIsUnique : Type 0
StepWithoutVariablesIsUnique = (r : Rule) (g : Graph) (m : Found) (h k : Graph) → r.types ≡ [] → Step r g m h → Step r g m k → h ≡ k

-- A kept edge stays at its number and between its nodes.
abbrev pub KeptEdgesStay : Type 0
KeptEdgesStay = (r : Rule) (g : Graph) (m : Found) (a : Assignment) (h : Graph) → MatchBy r g m a → StepBy r g m a h →
    (k i : ℕ) (q : RightEdge) → slice_get r.right_edges k ≡ Some q → kept_edge r q ≡ Some i → (d : Edge) → edge_at g (slice_index m.edges i) ≡ Some d →
    IsSomeAnd (edge_at h (slice_index m.edges i)) (λ e. (e.source ≡ d.source) × (e.target ≡ d.target))

-- The trace of a run leads from its first graph to the one at which it ends, and each beginning of it leads to some graph.
pub record TraceReplays (program : Program) (g : Graph) (t : List Item) (x : Ending) : Type 0 where
  pub whole : Replays program.rules g t (graph_at x)
  pub beginnings : (u v : List Item) → t ≡ u ++ v → (h : Graph) × Replays program.rules g u h

abbrev pub RunsReplay : Type 0
RunsReplay = (program : Program) (p : Command) (g : Graph) (picks : List Bool) (t : List Item) (x : Ending) → Run program p g picks t x → TraceReplays program g t x

-- A rule has the nodes and the edges of its declaration. The ends of its edges are nodes of their side, and each right
-- node that the interface has comes from a left node of its own.
pub record FitsDeclaration (d : Declaration) (r : Rule) : Type 0 where
  pub left_nodes : length r.left_nodes ≡ length d.left.nodes
  pub left_edges : length r.left_edges ≡ length d.left.edges
  pub right_nodes : length r.right_nodes ≡ length d.right.nodes
  pub right_edges : length r.right_edges ≡ length d.right.edges
  pub left_ends : (i : ℕ) (e : LeftEdge) → slice_get r.left_edges i ≡ Some e → (e.source < length r.left_nodes) × (e.target < length r.left_nodes)
  pub right_ends : (i : ℕ) (e : RightEdge) → slice_get r.right_edges i ≡ Some e → (e.source < length r.right_nodes) × (e.target < length r.right_nodes)
  pub origins : (j i : ℕ) (q : RightNode) → slice_get r.right_nodes j ≡ Some q → q.origin ≡ Some i → i < length r.left_nodes
  pub origins_apart : (j k i : ℕ) (p q : RightNode) → slice_get r.right_nodes j ≡ Some p → slice_get r.right_nodes k ≡ Some q → p.origin ≡ Some i → q.origin ≡ Some i → j ≡ k

abbrev pub RulesOfDeclarationsFit : Type 0
RulesOfDeclarationsFit = (d : Declaration) → IsWellNamed d → FitsDeclaration d (rule_of d)

-- A constant has the same value everywhere, in a rule as in its declaration.
pub record ConstantsHaveTheirValue : Type 0 where
  pub value : (e : Expression ℕ) (s : Setting) → IsConstant e → value_of e s ≡ Value (constant_of e)
  pub stays : (v n : Name → ℕ) (e : Expression Name) → IsConstant e → IsConstant (renamed v n e)
  pub same : (v n : Name → ℕ) (e : Expression Name) → IsConstant e → constant_of (renamed v n e) ≡ constant_of e
  pub no_arithmetic : (e : Expression ℕ) → IsConstant e → HasNoArithmetic e

-- What matches applies, and is not faulty.
pub record MatchesApply (r : Rule) (g : Graph) (m : Found) : Type 0 where
  pub applies : Match r g m ↔ Applies r g m
  pub not_faulty : (kind : NumberKind) → IsFaulty r g m kind → ⊥

abbrev pub FaultlessRulesApply : Type 0
FaultlessRulesApply = (r : Rule) (g : Graph) (m : Found) → IsFaultless r → MatchesApply r g m
