use Rattle.std.proofs.Common.{◌≡◌, ◌+◌, drop}
use Rattle.std.specs.List.{list_any}
use Rattle.gp_syntax.specs.Tree.{expression_of}
use Rattle.gp_independence.specs.inside.Size.{size, sizes, operand_sizes}
use Rattle.gp_independence.specs.Independent.{has_degree}
use Rattle.gp_independence.proofs.looks.+has_degree.Given as goal

abbrev pub decreases-has_degree : goal.decreases-has_degree
decreases-has_degree l = size l.expression.now

abbrev pub decreases-terms_have : goal.decreases-terms_have
decreases-terms_have l = 1 + operand_sizes l.rest.now

abbrev pub decreases-factors_have : goal.decreases-factors_have
decreases-factors_have l = 1 + operand_sizes l.rest.now

abbrev pub decreases-parts_have : goal.decreases-parts_have
decreases-parts_have l = 1 + sizes l.rest.now

abbrev pub invariant-terms_have-terms : goal.invariant-terms_have-terms
invariant-terms_have-terms l = list_any (λ t. has_degree (expression_of t.operand)) (drop l.term-index l.rest) ≡ list_any (λ t. has_degree (expression_of t.operand)) l.rest

abbrev pub invariant-factors_have-factors : goal.invariant-factors_have-factors
invariant-factors_have-factors l = list_any (λ t. has_degree (expression_of t.operand)) (drop l.factor-index l.rest) ≡ list_any (λ t. has_degree (expression_of t.operand)) l.rest

abbrev pub invariant-parts_have-parts : goal.invariant-parts_have-parts
invariant-parts_have-parts l = list_any (λ e. has_degree (expression_of e)) (drop l.part-index l.rest) ≡ list_any (λ e. has_degree (expression_of e)) l.rest
