-- A match that applies, and what its right side says there.
use Rattle.std.specs.Prelude.{◌≡◌, ℕ, List, length}
use Rattle.gp_values.specs.declared.atom.Atom.{Atom}
use Rattle.gp_values.specs.Graph.{Graph, Node, Edge}
use Rattle.gp_syntax.specs.declared.rule.RuleParts.{RuleParts}
use Rattle.gp_syntax.specs.Assigned.{PartialAssignment, IsWhole, assigned_of}
use Rattle.gp_syntax.specs.Expression.{Expression}
use Rattle.gp_syntax.specs.Value.{Value, value_of}
use Rattle.gp_syntax.specs.Rule.{Rule, RightNode, RightEdge, Found}
use Rattle.gp_syntax.specs.Match.{setting_of}
use Rattle.gp_syntax.specs.Step.{AppliesBy}
use Rattle.gp_syntax.specs.Tree.{rule_of_tree}
use Rattle.gp_syntax.specs.WellFormed.{IsWellFormed, IsWithin}
use Rattle.gp_step.specs.Edits.{value_or_empty, made_node, made_edge}

-- a match of a rule, and what its variables stand for, over the graph before the step
pub record SceneView : Type 0 where
  pub parts : RuleParts
  pub graph : Graph
  pub found : Found
  pub assignment : PartialAssignment

abbrev pub scene : RuleParts → Graph → Found → PartialAssignment → SceneView
scene p g m b = record { parts = p; graph = g; found = m; assignment = b }

abbrev pub rule_at : SceneView → Rule
rule_at s = rule_of_tree s.parts

-- the match applies, by this assignment
pub record IsReady (s : SceneView) : Type 0 where
  pub well_formed : IsWellFormed (rule_at s)
  pub applies : AppliesBy (rule_at s) s.graph s.found (assigned_of s.assignment)
  pub types : s.assignment.types ≡ s.parts.types
  pub whole : IsWhole s.assignment

-- what a label of the right side is valued to
abbrev pub label_at : SceneView → Expression ℕ → List Atom
label_at s e = value_or_empty (value_of e (setting_of (rule_at s) s.graph s.found (assigned_of s.assignment)))

-- its places are there, and it has a value
pub record IsRightLabel (s : SceneView) (e : Expression ℕ) : Type 0 where
  pub within : IsWithin (length s.parts.types) (length s.parts.left_nodes) e
  pub has_value : value_of e (setting_of (rule_at s) s.graph s.found (assigned_of s.assignment)) ≡ Value (label_at s e)

-- what a node and an edge of the right side make there
abbrev pub node_made : SceneView → RightNode → Node
node_made s = made_node (rule_at s) s.graph s.found (assigned_of s.assignment)

abbrev pub edge_made : SceneView → List ℕ → RightEdge → Edge
edge_made s = made_edge (rule_at s) s.graph s.found (assigned_of s.assignment)
