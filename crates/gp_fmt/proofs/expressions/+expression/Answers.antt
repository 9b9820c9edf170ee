use Rattle.std.proofs.Common.{◌≡◌, [], ◌∷◌, ◌++◌, ◌+◌, ◌≤◌, sym, ap, ◌∙◌, arith}
use Rattle.gp_values.specs.Names.{Name}
use Rattle.gp_syntax.specs.declared.expression.Signed.{Signed}
use Rattle.gp_syntax.specs.declared.expression.SumSign.{SumSign}
use Rattle.gp_syntax.specs.declared.expression.ProductSign.{ProductSign}
use Rattle.gp_syntax.specs.declared.expression.Expr.{Expr}
use Rattle.std.specs.List.{flat_map}
use Rattle.gp_tokens.specs.declared.token.Kind.TheVariants as k
use Rattle.gp_fmt.specs.declared.piece.Piece.{Piece}
use Rattle.gp_fmt.specs.declared.piece.Piece.TheVariants as p
use Rattle.gp_fmt.specs.Expressions.{Part, expression, part_of_expression, in_parentheses_if, member, sum_level, product_level, dot_level, join_level}
use Rattle.gp_fmt.specs.inside.Links.{sum_link, product_link, chain_link}
use Rattle.gp_fmt.specs.inside.Sizes.{expression_size, expression_sizes, operand_sizes}
use Rattle.gp_fmt.proofs.Forms.{of-Number, of-Text, of-Variable, of-InDegree, of-OutDegree, of-Length, of-Empty, of-Negated, links-Sum, links-Product, links-Dot, links-Join}
use Rattle.gp_fmt.proofs.Puts.{and_then, wrapped, bare, told, more, all, nothing}
use Rattle.gp_fmt.proofs.Sizes.{size_within, expression_size-Negated, expression_size-Sum, expression_size-Product, expression_size-Dot, expression_size-Join}
use Rattle.gp_fmt.proofs.expressions.+expression.Goals as goal

pub put_expression-returns-in-Number : goal.put_expression-returns-in-Number
put_expression-returns-in-Number t c =
    told (ap expression c.in-Number.is ∙ ap (λ (x : Part). x.pieces) (of-Number c.in-Number.value)) c.put_numeral.ensures

pub put_expression-returns-in-Text : goal.put_expression-returns-in-Text
put_expression-returns-in-Text t c =
    let e : expression c.args.e.now ≡ p.String c.new.result ∷ [] = rw (c.new.ensures, c.as_bytes.ensures.value) (ap expression c.in-Text.is ∙ ap (λ (x : Part). x.pieces) (of-Text c.in-Text.characters)) in
    told e c.put.ensures

pub put_expression-returns-in-Variable : goal.put_expression-returns-in-Variable
put_expression-returns-in-Variable t c =
    told (ap expression c.in-Variable.is ∙ ap (λ (x : Part). x.pieces) (of-Variable c.in-Variable.name)) c.name.ensures

pub put_expression-returns-in-InDegree : goal.put_expression-returns-in-InDegree
put_expression-returns-in-InDegree t c =
    told (ap expression c.in-InDegree.is ∙ ap (λ (x : Part). x.pieces) (of-InDegree c.in-InDegree.name)) c.put_applied.ensures

pub put_expression-returns-in-OutDegree : goal.put_expression-returns-in-OutDegree
put_expression-returns-in-OutDegree t c =
    told (ap expression c.in-OutDegree.is ∙ ap (λ (x : Part). x.pieces) (of-OutDegree c.in-OutDegree.name)) c.put_applied-in-OutDegree.ensures

pub put_expression-returns-in-Length : goal.put_expression-returns-in-Length
put_expression-returns-in-Length t c =
    told (ap expression c.in-Length.is ∙ ap (λ (x : Part). x.pieces) (of-Length c.in-Length.name)) c.put_applied-in-Length.ensures

pub put_expression-returns-in-Empty : goal.put_expression-returns-in-Empty
put_expression-returns-in-Empty t c =
    told (ap expression c.in-Empty.is ∙ ap (λ (x : Part). x.pieces) of-Empty) c.word.ensures

pub put_expression-returns-in-Negated : goal.put_expression-returns-in-Negated
put_expression-returns-in-Negated t c =
    let w = in_parentheses_if c.minus_needs_parentheses.result (expression c.get-operand.result.now) in
    let e : expression c.args.e.now ≡ p.Negation ∷ w = rw (c.minus_needs_parentheses.ensures, c.get-operand.ensures) (ap expression c.in-Negated.is ∙ ap (λ (x : Part). x.pieces) (of-Negated c.in-Negated.operand)) in
    told e (and_then c.put-in-Negated.ensures c.put_operand.ensures)

pub put_expression-returns-in-Sum : goal.put_expression-returns-in-Sum
put_expression-returns-in-Sum t c =
    let e : expression c.args.e.now ≡ member sum_level (part_of_expression c.get.result.now) ++ flat_map sum_link c.as_slice.result.now = rw (c.get.ensures, c.as_slice.ensures) (ap expression c.in-Sum.is ∙ ap (λ (x : Part). x.pieces) (links-Sum c.in-Sum.first c.in-Sum.rest)) in
    told e c.put_sum.ensures

pub put_expression-returns-in-Product : goal.put_expression-returns-in-Product
put_expression-returns-in-Product t c =
    let e : expression c.args.e.now ≡ member product_level (part_of_expression c.get-in-Product.result.now) ++ flat_map product_link c.as_slice-in-Product.result.now = rw (c.get-in-Product.ensures, c.as_slice-in-Product.ensures) (ap expression c.in-Product.is ∙ ap (λ (x : Part). x.pieces) (links-Product c.in-Product.first c.in-Product.rest)) in
    told e c.put_product.ensures

pub put_expression-returns-in-Dot : goal.put_expression-returns-in-Dot
put_expression-returns-in-Dot t c =
    let e : expression c.args.e.now ≡ member dot_level (part_of_expression c.get-in-Dot.result.now) ++ flat_map (chain_link k.Dot dot_level) c.as_slice-in-Dot.result.now = rw (c.get-in-Dot.ensures, c.as_slice-in-Dot.ensures) (ap expression c.in-Dot.is ∙ ap (λ (x : Part). x.pieces) (links-Dot c.in-Dot.first c.in-Dot.rest)) in
    told e c.put_chain.ensures

pub put_expression-returns-in-Join : goal.put_expression-returns-in-Join
put_expression-returns-in-Join t c =
    let e : expression c.args.e.now ≡ member join_level (part_of_expression c.get-in-Join.result.now) ++ flat_map (chain_link k.Colon join_level) c.as_slice-in-Join.result.now = rw (c.get-in-Join.ensures, c.as_slice-in-Join.ensures) (ap expression c.in-Join.is ∙ ap (λ (x : Part). x.pieces) (links-Join c.in-Join.first c.in-Join.rest)) in
    told e c.put_chain-in-Join.ensures

pub put_expression-put_operand-requires : goal.put_expression-put_operand-requires
put_expression-put_operand-requires t c =
    let z : expression_size c.args.e.now ≡ 1 + expression_size c.get-operand.result.now = rw (c.get-operand.ensures) (ap expression_size c.in-Negated.is ∙ expression_size-Negated c.in-Negated.operand) in
    (omega arith, tt)

pub put_expression-put_sum-requires : goal.put_expression-put_sum-requires
put_expression-put_sum-requires t c =
    let z : expression_size c.args.e.now ≡ 1 + expression_size c.get.result.now + operand_sizes c.as_slice.result.now = rw (c.get.ensures, c.as_slice.ensures) (ap expression_size c.in-Sum.is ∙ expression_size-Sum c.in-Sum.first c.in-Sum.rest) in
    (omega arith, tt)

pub put_expression-put_product-requires : goal.put_expression-put_product-requires
put_expression-put_product-requires t c =
    let z : expression_size c.args.e.now ≡ 1 + expression_size c.get-in-Product.result.now + operand_sizes c.as_slice-in-Product.result.now = rw (c.get-in-Product.ensures, c.as_slice-in-Product.ensures) (ap expression_size c.in-Product.is ∙ expression_size-Product c.in-Product.first c.in-Product.rest) in
    (omega arith, tt)

pub put_expression-put_chain-requires : goal.put_expression-put_chain-requires
put_expression-put_chain-requires t c =
    let z : expression_size c.args.e.now ≡ 1 + expression_size c.get-in-Dot.result.now + expression_sizes c.as_slice-in-Dot.result.now = rw (c.get-in-Dot.ensures, c.as_slice-in-Dot.ensures) (ap expression_size c.in-Dot.is ∙ expression_size-Dot c.in-Dot.first c.in-Dot.rest) in
    (omega arith, tt)

pub put_expression-put_chain-requires-in-Join : goal.put_expression-put_chain-requires-in-Join
put_expression-put_chain-requires-in-Join t c =
    let z : expression_size c.args.e.now ≡ 1 + expression_size c.get-in-Join.result.now + expression_sizes c.as_slice-in-Join.result.now = rw (c.get-in-Join.ensures, c.as_slice-in-Join.ensures) (ap expression_size c.in-Join.is ∙ expression_size-Join c.in-Join.first c.in-Join.rest) in
    (omega arith, tt)

pub put_sum-put_member-requires-in-each : goal.put_sum-put_member-requires-in-each
put_sum-put_member-requires-in-each t c =
    let l : expression_size c.term-item.result.operand ≤ operand_sizes c.args.rest.now = size_within (λ (s : Signed SumSign (Expr Name)). expression_size s.operand) c.args.rest.now c.each.term-index c.term-item.result c.each-test.true c.term-item.is in
    (omega arith, tt)

pub put_product-put_member-requires-in-each : goal.put_product-put_member-requires-in-each
put_product-put_member-requires-in-each t c =
    let l : expression_size c.factor-item.result.operand ≤ operand_sizes c.args.rest.now = size_within (λ (s : Signed ProductSign (Expr Name)). expression_size s.operand) c.args.rest.now c.each.factor-index c.factor-item.result c.each-test.true c.factor-item.is in
    (omega arith, tt)

pub put_chain-put_member-requires-in-each : goal.put_chain-put_member-requires-in-each
put_chain-put_member-requires-in-each t c =
    let l : expression_size c.part-item.result ≤ expression_sizes c.args.rest.now = size_within expression_size c.args.rest.now c.each.part-index c.part-item.result c.each-test.true c.part-item.is in
    (omega arith, tt)

pub put_operand-returns-then-needed : goal.put_operand-returns-then-needed
put_operand-returns-then-needed t c = wrapped c.if-needed.true c.sign.ensures c.put_expression.ensures c.sign-then-needed.ensures

pub put_operand-returns-else-needed : goal.put_operand-returns-else-needed
put_operand-returns-else-needed t c = bare c.if-needed.false c.put_expression-else-needed.ensures

pub put_sum-each-init : goal.put_sum-each-init
put_sum-each-init t c = nothing

pub put_sum-each-preserved : goal.put_sum-each-preserved
put_sum-each-preserved t c = more sum_link c.args.rest.now c.each-test.true c.term-item.is c.each.invariant (and_then (told (ap (λ (s : Piece). s ∷ []) (sym c.sum_kind.ensures)) c.sign.ensures) c.put_member-in-each.ensures)

pub put_sum-returns : goal.put_sum-returns
put_sum-returns t c = and_then c.put_member.ensures (all sum_link c.args.rest.now c.each-test.false c.each.invariant)

pub put_product-each-init : goal.put_product-each-init
put_product-each-init t c = nothing

pub put_product-each-preserved : goal.put_product-each-preserved
put_product-each-preserved t c = more product_link c.args.rest.now c.each-test.true c.factor-item.is c.each.invariant (and_then (told (ap (λ (s : Piece). s ∷ []) (sym c.product_kind.ensures)) c.sign.ensures) c.put_member-in-each.ensures)

pub put_product-returns : goal.put_product-returns
put_product-returns t c = and_then c.put_member.ensures (all product_link c.args.rest.now c.each-test.false c.each.invariant)

pub put_chain-each-init : goal.put_chain-each-init
put_chain-each-init t c = nothing

pub put_chain-each-preserved : goal.put_chain-each-preserved
put_chain-each-preserved t c = more (chain_link c.args.sign c.args.level) c.args.rest.now c.each-test.true c.part-item.is c.each.invariant (and_then c.sign.ensures c.put_member-in-each.ensures)

pub put_chain-returns : goal.put_chain-returns
put_chain-returns t c = and_then c.put_member.ensures (all (chain_link c.args.sign c.args.level) c.args.rest.now c.each-test.false c.each.invariant)
