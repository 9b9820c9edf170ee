-- What holds of independent matches (Ehrig et al. 2006, section 3.3: local Church-Rosser and parallelism).
use Rattle.std.specs.Prelude.{◌≡◌, ℕ, ◌<◌, ◌≤◌, List, ◌∷◌, Some, slice_get, All}
use Rattle.std.specs.Option.{option_map}
use Rattle.std.specs.List.{AllPairs}
use Rattle.std.specs.List.Sorted.{IsPermutation}
use Rattle.gp_values.specs.Graph.{Graph, Edge, IsGraph, node_at, edge_at}
use Rattle.gp_syntax.specs.Rule.{Rule, LeftNode, RightNode, Found}
use Rattle.gp_syntax.specs.Step.{Applies, Step}
use Rattle.gp_syntax.specs.Replay.{StepsTo}
use Rattle.gp_syntax.specs.WellFormed.{IsWellFormed}
use Rattle.gp_step.specs.Laws.{IsNumbered}
use Rattle.gp_independence.specs.Independent.{Preserves, Independent}

-- ---- what is preserved

-- A node that the right side writes as the left side does is preserved.
abbrev pub WrittenAgainIsPreserved : Type 0
WrittenAgainIsPreserved =
    (r : Rule) (g : Graph) (m : Found) (i j : ℕ) (p : LeftNode) (q : RightNode) → slice_get r.left_nodes i ≡ Some p → slice_get r.right_nodes j ≡ Some q
    → q.origin ≡ Some i → q.label ≡ p.label → q.mark ≡ p.mark → q.root ≡ p.root → Preserves r g m i

-- ---- graphs that differ in the numbers of what is new

-- a renaming of the numbers from `first` up to `next`, one to one and onto; all others stay
pub record Renaming (first next : ℕ) : Type 0 where
  pub to : ℕ → ℕ
  pub back : ℕ → ℕ
  pub to_back : (n : ℕ) → to (back n) ≡ n
  pub back_to : (n : ℕ) → back (to n) ≡ n
  pub old : (n : ℕ) → n < first → to n ≡ n
  pub free : (n : ℕ) → next ≤ n → to n ≡ n

-- the edge between the renamed nodes
abbrev pub moved : (ℕ → ℕ) → Edge → Edge
moved f d = record d { source = f d.source; target = f d.target }

-- The one graph is the other with its nodes and edges renamed, but none of those of g. The next numbers are the same.
pub record AreSameOver (g h k : Graph) : Type 0 where
  pub nodes : Renaming g.next_node h.next_node
  pub edges : Renaming g.next_edge h.next_edge
  pub node : (n : ℕ) → node_at k (nodes.to n) ≡ node_at h n
  pub edge : (e : ℕ) → edge_at k (edges.to e) ≡ option_map (moved nodes.to) (edge_at h e)
  pub next_node : k.next_node ≡ h.next_node
  pub next_edge : k.next_edge ≡ h.next_edge

-- ---- two steps commute

-- Each match applies after the other's step, and the two orders lead to one graph, but for the numbers of what is new.
pub record Commute (r s : Rule) (g : Graph) (m n : Found) : Type 0 where
  pub n_after_m : (h : Graph) → Step r g m h → Applies s h n
  pub m_after_n : (k : Graph) → Step s g n k → Applies r k m
  pub one_graph : (h k h2 k2 : Graph) → Step r g m h → Step s h n h2 → Step s g n k → Step r k m k2 → AreSameOver g h2 k2

-- The steps of independent matches commute.
abbrev pub IndependentStepsCommute : Type 0
IndependentStepsCommute = (r s : Rule) (g : Graph) (m n : Found) → IsWellFormed r → IsWellFormed s → IsGraph g → Independent r s g m n → Commute r s g m n

-- ---- and so do those of more

-- After the step of a match that is independent of two independent ones, these still are independent.
abbrev pub IndependenceIsKept : Type 0
IndependenceIsKept =
    (r s t : Rule) (g h : Graph) (m n o : Found) → IsWellFormed r → IsWellFormed s → IsWellFormed t → IsNumbered g
    → Independent r s g m n → Independent r t g m o → Independent s t g n o → Step r g m h → Independent s t h n o

-- two matches, each of the rule of a list that it names, are independent
abbrev pub AreIndependent : List Rule → Graph → Found → Found → Type 0
AreIndependent rules g m n = (r s : Rule) → slice_get rules m.rule ≡ Some r → slice_get rules n.rule ≡ Some s → Independent r s g m n

-- the list has the rule that the match names, and the match applies
abbrev pub IsApplying : List Rule → Graph → Found → Type 0
IsApplying rules g m = (r : Rule) × (slice_get rules m.rule ≡ Some r) × Applies r g m

-- Pairwise independent matches are a derivation, in every order.
abbrev pub IndependentMatchesDerive : Type 0
IndependentMatchesDerive =
    (rules : List Rule) (g : Graph) (ms ns : List Found) → All IsWellFormed rules → IsNumbered g
    → All (IsApplying rules g) ms → AllPairs (AreIndependent rules g) ms → IsPermutation ms ns → (h : Graph) × StepsTo rules g ns h

-- Of pairwise independent matches one applies after the steps of the others, in any order.
abbrev pub IndependentMatchesFollow : Type 0
IndependentMatchesFollow =
    (rules : List Rule) (g h : Graph) (m : Found) (ms ns : List Found) → All IsWellFormed rules → IsNumbered g
    → All (IsApplying rules g) (m ∷ ms) → AllPairs (AreIndependent rules g) (m ∷ ms) → IsPermutation ms ns → StepsTo rules g ns h → IsApplying rules h m
