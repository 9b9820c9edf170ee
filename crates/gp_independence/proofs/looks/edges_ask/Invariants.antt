use Rattle.std.proofs.Common.{◌≡◌, drop}
use Rattle.std.specs.List.{list_any}
use Rattle.gp_syntax.specs.Tree.{expression_of}
use Rattle.gp_independence.specs.Independent.{has_degree}
use Rattle.gp_independence.proofs.looks.edges_ask.Given as goal

abbrev pub invariant-labels : goal.invariant-labels
invariant-labels l = list_any (λ q. has_degree (expression_of q.label)) (drop l.edge-index l.right) ≡ list_any (λ q. has_degree (expression_of q.label)) l.right
