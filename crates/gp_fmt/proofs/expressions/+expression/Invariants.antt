use Rattle.std.proofs.Common.{◌+◌, ◌*◌, take}
use Rattle.std.specs.List.{flat_map}
use Rattle.gp_fmt.specs.inside.Puts.{Puts}
use Rattle.gp_fmt.specs.inside.Links.{sum_link, product_link, chain_link}
use Rattle.gp_fmt.specs.inside.Sizes.{expression_size, expression_sizes, operand_sizes}
use Rattle.gp_fmt.proofs.expressions.+expression.Given as goal

abbrev pub decreases-put_expression : goal.decreases-put_expression
decreases-put_expression l = 4 * expression_size l.e.now

abbrev pub decreases-put_operand : goal.decreases-put_operand
decreases-put_operand l = 1 + 4 * expression_size l.e.now

abbrev pub decreases-put_member : goal.decreases-put_member
decreases-put_member l = 2 + 4 * expression_size l.e.now

abbrev pub decreases-put_sum : goal.decreases-put_sum
decreases-put_sum l = 3 + 4 * (expression_size l.first.now + operand_sizes l.rest.now)

abbrev pub decreases-put_product : goal.decreases-put_product
decreases-put_product l = 3 + 4 * (expression_size l.first.now + operand_sizes l.rest.now)

abbrev pub decreases-put_chain : goal.decreases-put_chain
decreases-put_chain l = 3 + 4 * (expression_size l.first.now + expression_sizes l.rest.now)

abbrev pub invariant-put_sum-each : goal.invariant-put_sum-each
invariant-put_sum-each l = Puts l.initial.sheet l.sheet (flat_map sum_link (take l.term-index l.rest))

abbrev pub invariant-put_product-each : goal.invariant-put_product-each
invariant-put_product-each l = Puts l.initial.sheet l.sheet (flat_map product_link (take l.factor-index l.rest))

abbrev pub invariant-put_chain-each : goal.invariant-put_chain-each
invariant-put_chain-each l = Puts l.initial.sheet l.sheet (flat_map (chain_link l.sign l.level) (take l.part-index l.rest))
