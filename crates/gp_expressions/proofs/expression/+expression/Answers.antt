use Rattle.std.proofs.Common.{rules}
use Rattle.gp_tokens.specs.Reading.{reader_of}
use Rattle.gp_syntax.specs.declared.expression.Expr.TheVariants as e
use Rattle.gp_syntax.specs.declared.expression.SumSign.TheVariants as sums
use Rattle.gp_syntax.specs.declared.expression.ProductSign.TheVariants as products
use Rattle.gp_expressions.proofs.Operands.{operand_more}
use Rattle.gp_expressions.proofs.RowLaws.{quotients_are, differences_are, dots_are}
use Rattle.gp_expressions.specs.Ranges.{chained}
use Rattle.gp_expressions.specs.Expressions.{operand, unary, quotients, product, differences, sum, dots, joins}
use Rattle.gp_expressions.specs.inside.Rows.{signed_row}
use Rattle.gp_expressions.proofs.expression.+expression.Goals as goal

pub read_operand-returns : goal.read_operand-returns
read_operand-returns t c = rw (operand_more c.args.room c.if-room-eq0.false) c.read_nested.ensures

pub read_product-returns-in_err-rows : goal.read_product-returns-in_err-rows
unfolding product
read_product-returns-in_err-rows t c =
    let n = operand c.args.room in
    let h = c.read_rows.ensures (reader_of (unary n)) (signed_row products.Times products.Over) (reader_of (quotients n)) (record { reads = λ old new r p. search rules }) (record { makes = λ a parts r p. search rules }) (quotients_are n) in
    search rules

pub read_product-returns : goal.read_product-returns
unfolding product
read_product-returns t c =
    let n = operand c.args.room in
    let h = c.read_rows.ensures (reader_of (unary n)) (signed_row products.Times products.Over) (reader_of (quotients n)) (record { reads = λ old new r p. search rules }) (record { makes = λ a parts r p. search rules }) (quotients_are n) in
    search rules

pub read_sum-returns-in_err-rows : goal.read_sum-returns-in_err-rows
unfolding sum
read_sum-returns-in_err-rows t c =
    let n = operand c.args.room in
    let h = c.read_rows.ensures (reader_of (product n)) (signed_row sums.Plus sums.Minus) (reader_of (differences n)) (record { reads = λ old new r p. search rules }) (record { makes = λ a parts r p. search rules }) (differences_are n) in
    search rules

pub read_sum-returns : goal.read_sum-returns
unfolding sum
read_sum-returns t c =
    let n = operand c.args.room in
    let h = c.read_rows.ensures (reader_of (product n)) (signed_row sums.Plus sums.Minus) (reader_of (differences n)) (record { reads = λ old new r p. search rules }) (record { makes = λ a parts r p. search rules }) (differences_are n) in
    search rules

pub read_list-returns-in_err-parts : goal.read_list-returns-in_err-parts
unfolding joins
read_list-returns-in_err-parts t c =
    let n = operand c.args.room in
    let h = c.read_rows.ensures (reader_of (sum n)) (chained e.Empty e.Dot) (reader_of (dots n)) (record { reads = λ old new r p. search rules }) (record { makes = λ a parts r p. search rules }) (dots_are n) in
    search rules

pub read_list-returns : goal.read_list-returns
unfolding joins
read_list-returns t c =
    let n = operand c.args.room in
    let h = c.read_rows.ensures (reader_of (sum n)) (chained e.Empty e.Dot) (reader_of (dots n)) (record { reads = λ old new r p. search rules }) (record { makes = λ a parts r p. search rules }) (dots_are n) in
    search rules
