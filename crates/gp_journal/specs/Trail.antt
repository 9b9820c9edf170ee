-- A trail: a graph, and the graphs before its live steps.
use Rattle.std.specs.Prelude.{ℕ, zero, suc, List, [], ◌∷◌, Option, Some, None, slice_get, refl}
use Rattle.std.specs.Coded.{Coded, code_by, coded×, coded_ℕ, coded_list}
use Rattle.gp_values.specs.Graph.{Graph, graph_code}
use Rattle.gp_syntax.specs.Rule.{Rule, Found}
use Rattle.gp_step.specs.After.{after}

-- before: the graphs before its live steps, the last one first; caught: how many items the last catching up made
pub record Trail : Type 0 where
  pub graph : Graph
  pub before : List Graph
  pub caught : ℕ

abbrev pub fresh : Graph → Trail
fresh g = record { graph = g; before = []; caught = 0 }

-- one live step more, which led to this graph
abbrev pub led : Trail → Graph → Trail
led t h = record { graph = h; before = t.graph ∷ t.before; caught = t.caught }

-- the graph that a match of the rule of its number leads to
abbrev pub led_by : Option Rule → Graph → Found → Graph
led_by None g m = g
led_by (Some r) g m = after r g m

abbrev pub advanced : List Rule → Trail → Found → Trail
advanced rules t m = led t (led_by (slice_get rules m.rule) t.graph m)

-- the last live step is taken back, and the last k of them
abbrev pub undone_of : Graph → List Graph → ℕ → Trail
undone_of g [] c = record { graph = g; before = []; caught = c }
undone_of g (b ∷ bs) c = record { graph = b; before = bs; caught = c }

abbrev pub undone : Trail → Trail
undone t = undone_of t.graph t.before t.caught

abbrev pub back_by : ℕ → Trail → Trail
back_by zero t = t
back_by (suc k) t = back_by k (undone t)

-- what takes the live steps back is forgotten
abbrev pub forgotten : Trail → Trail
forgotten t = record t { before = [] }

-- the graph with all live steps taken back
abbrev pub root_from : Graph → List Graph → Graph
root_from g [] = g
root_from g (b ∷ bs) = root_from b bs

abbrev pub root_of : Trail → Graph
root_of t = root_from t.graph t.before

abbrev pub rooted : Trail → Trail
rooted t = record { graph = root_of t; before = []; caught = t.caught }

-- how a trail is stored in a value that a contract sees
abbrev pub trail_code : Coded Trail
trail_code =
    code_by (Graph × (List Graph × ℕ)) (coded× graph_code (coded× (coded_list graph_code) coded_ℕ)) (λ t. (t.graph, (t.before, t.caught)))
    (λ p. record { graph = p.0; before = p.1.0; caught = p.1.1 }) (λ _. refl)
