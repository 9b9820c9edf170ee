-- Worked examples: an edge goes, and one of its ends is noted. That is enough for a rule that sees no degrees, and not for one
-- that deletes a node; where the edge is not noted at all, a test for edges does not see that it went.
use Rattle.std.specs.Prelude.{◌≡◌, ℕ, ◌==◌, Bool, true, false, [], ◌∷◌, Some}
use Rattle.gp_values.specs.Graph.{Graph}
use Rattle.gp_syntax.specs.declared.kinds.VariableType.TheVariants as types
use Rattle.gp_syntax.specs.Expression.{Variable, Not, HasEdge}
use Rattle.gp_syntax.specs.Rule.{Rule, Found}
use Rattle.gp_syntax.specs.Rows.{two_nodes, edge, left, unmarked, del, found, at_first}
use Rattle.gp_touch.specs.Touch.{ComesUp, LiesAt}
use Rattle.gp_touch.specs.Ends.{SeesNoDegrees, AddsNoted, DiffersAtNoted}

-- nodes 0 and 1 with an edge from 0 to 1, and without it
abbrev pub joined : Graph
joined = two_nodes ((0, edge 0 1) ∷ []) 1

abbrev pub parted : Graph
parted = two_nodes [] 1

-- node 1 is noted alone
abbrev pub at_target : ℕ → Bool
at_target n = n == 1

-- nothing is noted
abbrev pub nowhere : ℕ → Bool
nowhere n = false

-- apart(x,y:list) [ (n0, x) (n1, y) | ] => [ (n0, x) (n1, y) | ] interface = {n0, n1} where not edge(n0, n1)
abbrev pub apart : Rule
apart = record {
  types = types.List ∷ types.List ∷ [];
  left_nodes = left (Variable 0) unmarked false ∷ left (Variable 1) unmarked false ∷ [];
  left_edges = [];
  right_nodes = record { origin = Some 0; label = Variable 0; mark = unmarked; root = false } ∷ record { origin = Some 1; label = Variable 1; mark = unmarked; root = false } ∷ [];
  right_edges = [];
  condition = Not (HasEdge 0 1);
}

-- the left nodes lie at nodes 0 and 1
abbrev pub in_order : Found
in_order = found 0 (0 ∷ 1 ∷ []) [] []

-- The match of `apart` that comes up has its second left node at the noted node.
pub record OneEndIsEnough : Type 0 where
  pub sees : SeesNoDegrees apart
  pub differs : DiffersAtNoted at_target joined parted
  pub up : ComesUp apart joined parted in_order
  pub lies : LiesAt apart in_order (λ n. at_target n ≡ true)

-- `del` deletes node 0 where no edge dangles: its match comes up too, and not at the noted node.
pub record OneEndIsNotEnough : Type 0 where
  pub differs : DiffersAtNoted at_target joined parted
  pub up : ComesUp del joined parted (at_first 0)
  pub elsewhere : LiesAt del (at_first 0) (λ n. at_target n ≡ true) → ⊥

-- Nothing has come up in the graph, so that nothing need be noted for a rule that sees its images alone; `apart` sees more.
pub record WhatGoesIsSeen : Type 0 where
  pub adds : AddsNoted nowhere joined parted
  pub up : ComesUp apart joined parted in_order
  pub elsewhere : LiesAt apart in_order (λ n. nowhere n ≡ true) → ⊥
