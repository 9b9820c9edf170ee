use Rattle.std.proofs.Common.{◌≡◌, ◌+◌, drop}
use Rattle.std.specs.List.{list_any}
use Rattle.gp_syntax.specs.Tree.{condition_of, pattern_of}
use Rattle.gp_independence.specs.inside.Size.{condition_size, condition_sizes}
use Rattle.gp_independence.specs.Independent.{asks_edges}
use Rattle.gp_independence.proofs.looks.+asks_edges.Given as goal

abbrev pub decreases-asks_edges : goal.decreases-asks_edges
decreases-asks_edges l = condition_size l.condition.now

abbrev pub decreases-some_asks : goal.decreases-some_asks
decreases-some_asks l = 1 + condition_sizes l.rest.now

abbrev pub invariant-some_asks-parts : goal.invariant-some_asks-parts
invariant-some_asks-parts l = list_any (λ c. asks_edges (condition_of pattern_of c)) (drop l.part-index l.rest) ≡ list_any (λ c. asks_edges (condition_of pattern_of c)) l.rest
