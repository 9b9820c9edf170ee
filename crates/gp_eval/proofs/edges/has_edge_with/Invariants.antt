use Rattle.std.proofs.Common.{◌≡◌}
use Rattle.std.specs.List.{list_any}
use Rattle.gp_syntax.specs.Tree.{pattern_of}
use Rattle.gp_syntax.specs.Truth.{has_edge_with}
use Rattle.gp_eval.specs.inside.Between.{carries}
use Rattle.gp_eval.proofs.edges.has_edge_with.Given as goal

abbrev pub invariant-loop-e : goal.invariant-loop-e
invariant-loop-e l =
    (goal.iterator-loop-e).can_next l.e-iterator × (goal.iterator-loop-e).is_finite l.e-iterator
    × (list_any (carries l.graph.graph l.list (pattern_of l.mark)) l.e-iterator ≡ has_edge_with l.graph.graph l.source l.target l.list (pattern_of l.mark))
