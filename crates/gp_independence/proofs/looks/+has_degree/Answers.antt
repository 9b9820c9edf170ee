use Rattle.std.proofs.Common.{rules, ◌≡◌, ◌+◌, ◌≤◌, ℕ, sym, ap, subst, ◌∙◌}
use Rattle.std.specs.List.{list_any}
use Rattle.std.proofs.lemmas.List.Sums.{get_or-le-sum_by}
use Rattle.gp_syntax.proofs.Trees.{expression_of-Number, expression_of-Text, expression_of-Variable, expression_of-InDegree, expression_of-OutDegree, expression_of-Length, expression_of-Empty, expression_of-Negated}
use Rattle.gp_independence.specs.inside.Size.{size, sizes, operand_sizes}
use Rattle.gp_independence.specs.Independent.{has_degree}
use Rattle.gp_independence.proofs.Asked.{expression_asks, then_first, else_rest, of_sum, of_product, of_dot, of_join}
use Rattle.gp_independence.proofs.Sizes.{size-Negated, size-Sum, size-Product, size-Dot, size-Join}
use Rattle.gp_independence.proofs.looks.+has_degree.Goals as goal

pub has_degree-returns-in-InDegree : goal.has_degree-returns-in-InDegree
has_degree-returns-in-InDegree t c =
    sym (ap expression_asks c.in-InDegree.is ∙ ap has_degree (expression_of-InDegree {R = ℕ} c.in-InDegree.field-0))

pub has_degree-returns-in-OutDegree : goal.has_degree-returns-in-OutDegree
has_degree-returns-in-OutDegree t c =
    sym (ap expression_asks c.in-OutDegree.is ∙ ap has_degree (expression_of-OutDegree {R = ℕ} c.in-OutDegree.field-0))

pub has_degree-returns-in-Number : goal.has_degree-returns-in-Number
has_degree-returns-in-Number t c =
    sym (ap expression_asks c.in-Number.is ∙ ap has_degree (expression_of-Number {R = ℕ} c.in-Number.field-0))

pub has_degree-returns-in-Text : goal.has_degree-returns-in-Text
has_degree-returns-in-Text t c =
    sym (ap expression_asks c.in-Text.is ∙ ap has_degree (expression_of-Text {R = ℕ} c.in-Text.field-0))

pub has_degree-returns-in-Variable : goal.has_degree-returns-in-Variable
has_degree-returns-in-Variable t c =
    sym (ap expression_asks c.in-Variable.is ∙ ap has_degree (expression_of-Variable {R = ℕ} c.in-Variable.field-0))

pub has_degree-returns-in-Length : goal.has_degree-returns-in-Length
has_degree-returns-in-Length t c =
    sym (ap expression_asks c.in-Length.is ∙ ap has_degree (expression_of-Length {R = ℕ} c.in-Length.field-0))

pub has_degree-returns-in-Empty : goal.has_degree-returns-in-Empty
has_degree-returns-in-Empty t c =
    sym (ap expression_asks c.in-Empty.is ∙ ap has_degree (expression_of-Empty {R = ℕ}))

pub has_degree-returns-in-Negated : goal.has_degree-returns-in-Negated
has_degree-returns-in-Negated t c =
    c.has_degree.ensures ∙ ap expression_asks c.get.ensures ∙ sym (ap expression_asks c.in-Negated.is ∙ ap has_degree (expression_of-Negated c.in-Negated.operand))

pub has_degree-has_degree-requires : goal.has_degree-has_degree-requires
has_degree-has_degree-requires t c =
    let is = c.get.ensures in
    let z : size c.args.expression.now ≡ 2 + size c.in-Negated.operand = ap size c.in-Negated.is ∙ size-Negated c.in-Negated.operand in
    search rules

pub has_degree-has_degree-requires-in-Sum : goal.has_degree-has_degree-requires-in-Sum
has_degree-has_degree-requires-in-Sum t c =
    let is = c.get-in-Sum.ensures in
    let z : size c.args.expression.now ≡ 2 + size c.in-Sum.first + operand_sizes c.in-Sum.rest = ap size c.in-Sum.is ∙ size-Sum c.in-Sum.first c.in-Sum.rest in
    search rules

pub has_degree-terms_have-requires : goal.has_degree-terms_have-requires
has_degree-terms_have-requires t c =
    let are = c.as_slice.ensures in
    let z : size c.args.expression.now ≡ 2 + size c.in-Sum.first + operand_sizes c.in-Sum.rest = ap size c.in-Sum.is ∙ size-Sum c.in-Sum.first c.in-Sum.rest in
    search rules

pub has_degree-returns-then-has_degree : goal.has_degree-returns-then-has_degree
has_degree-returns-then-has_degree t c =
    then_first _ _ _ _ (c.has_degree-in-Sum.ensures ∙ ap expression_asks c.get-in-Sum.ensures) c.if-has_degree.true (of_sum c.args.expression.now c.in-Sum.first c.in-Sum.rest c.in-Sum.is)

pub has_degree-returns-else-has_degree : goal.has_degree-returns-else-has_degree
has_degree-returns-else-has_degree t c =
    else_rest _ _ _ _ _ (c.has_degree-in-Sum.ensures ∙ ap expression_asks c.get-in-Sum.ensures) c.if-has_degree.false (c.terms_have.ensures ∙ ap (λ z. list_any (λ t. expression_asks t.operand) z) c.as_slice.ensures) (of_sum c.args.expression.now c.in-Sum.first c.in-Sum.rest c.in-Sum.is)

pub has_degree-has_degree-requires-in-Product : goal.has_degree-has_degree-requires-in-Product
has_degree-has_degree-requires-in-Product t c =
    let is = c.get-in-Product.ensures in
    let z : size c.args.expression.now ≡ 2 + size c.in-Product.first + operand_sizes c.in-Product.rest = ap size c.in-Product.is ∙ size-Product c.in-Product.first c.in-Product.rest in
    search rules

pub has_degree-factors_have-requires : goal.has_degree-factors_have-requires
has_degree-factors_have-requires t c =
    let are = c.as_slice-else-has_degree-2.ensures in
    let z : size c.args.expression.now ≡ 2 + size c.in-Product.first + operand_sizes c.in-Product.rest = ap size c.in-Product.is ∙ size-Product c.in-Product.first c.in-Product.rest in
    search rules

pub has_degree-returns-then-has_degree-2 : goal.has_degree-returns-then-has_degree-2
has_degree-returns-then-has_degree-2 t c =
    then_first _ _ _ _ (c.has_degree-in-Product.ensures ∙ ap expression_asks c.get-in-Product.ensures) c.if-has_degree-2.true (of_product c.args.expression.now c.in-Product.first c.in-Product.rest c.in-Product.is)

pub has_degree-returns-else-has_degree-2 : goal.has_degree-returns-else-has_degree-2
has_degree-returns-else-has_degree-2 t c =
    else_rest _ _ _ _ _ (c.has_degree-in-Product.ensures ∙ ap expression_asks c.get-in-Product.ensures) c.if-has_degree-2.false (c.factors_have.ensures ∙ ap (λ z. list_any (λ t. expression_asks t.operand) z) c.as_slice-else-has_degree-2.ensures) (of_product c.args.expression.now c.in-Product.first c.in-Product.rest c.in-Product.is)

pub has_degree-has_degree-requires-in-Dot : goal.has_degree-has_degree-requires-in-Dot
has_degree-has_degree-requires-in-Dot t c =
    let is = c.get-in-Dot.ensures in
    let z : size c.args.expression.now ≡ 2 + size c.in-Dot.first + sizes c.in-Dot.rest = ap size c.in-Dot.is ∙ size-Dot c.in-Dot.first c.in-Dot.rest in
    search rules

pub has_degree-parts_have-requires : goal.has_degree-parts_have-requires
has_degree-parts_have-requires t c =
    let are = c.as_slice-else-has_degree-3.ensures in
    let z : size c.args.expression.now ≡ 2 + size c.in-Dot.first + sizes c.in-Dot.rest = ap size c.in-Dot.is ∙ size-Dot c.in-Dot.first c.in-Dot.rest in
    search rules

pub has_degree-returns-then-has_degree-3 : goal.has_degree-returns-then-has_degree-3
has_degree-returns-then-has_degree-3 t c =
    then_first _ _ _ _ (c.has_degree-in-Dot.ensures ∙ ap expression_asks c.get-in-Dot.ensures) c.if-has_degree-3.true (of_dot c.args.expression.now c.in-Dot.first c.in-Dot.rest c.in-Dot.is)

pub has_degree-returns-else-has_degree-3 : goal.has_degree-returns-else-has_degree-3
has_degree-returns-else-has_degree-3 t c =
    else_rest _ _ _ _ _ (c.has_degree-in-Dot.ensures ∙ ap expression_asks c.get-in-Dot.ensures) c.if-has_degree-3.false (c.parts_have.ensures ∙ ap (λ z. list_any expression_asks z) c.as_slice-else-has_degree-3.ensures) (of_dot c.args.expression.now c.in-Dot.first c.in-Dot.rest c.in-Dot.is)

pub has_degree-has_degree-requires-in-Join : goal.has_degree-has_degree-requires-in-Join
has_degree-has_degree-requires-in-Join t c =
    let is = c.get-in-Join.ensures in
    let z : size c.args.expression.now ≡ 2 + size c.in-Join.first + sizes c.in-Join.rest = ap size c.in-Join.is ∙ size-Join c.in-Join.first c.in-Join.rest in
    search rules

pub has_degree-parts_have-requires-else-has_degree-4 : goal.has_degree-parts_have-requires-else-has_degree-4
has_degree-parts_have-requires-else-has_degree-4 t c =
    let are = c.as_slice-else-has_degree-4.ensures in
    let z : size c.args.expression.now ≡ 2 + size c.in-Join.first + sizes c.in-Join.rest = ap size c.in-Join.is ∙ size-Join c.in-Join.first c.in-Join.rest in
    search rules

pub has_degree-returns-then-has_degree-4 : goal.has_degree-returns-then-has_degree-4
has_degree-returns-then-has_degree-4 t c =
    then_first _ _ _ _ (c.has_degree-in-Join.ensures ∙ ap expression_asks c.get-in-Join.ensures) c.if-has_degree-4.true (of_join c.args.expression.now c.in-Join.first c.in-Join.rest c.in-Join.is)

pub has_degree-returns-else-has_degree-4 : goal.has_degree-returns-else-has_degree-4
has_degree-returns-else-has_degree-4 t c =
    else_rest _ _ _ _ _ (c.has_degree-in-Join.ensures ∙ ap expression_asks c.get-in-Join.ensures) c.if-has_degree-4.false (c.parts_have-else-has_degree-4.ensures ∙ ap (λ z. list_any expression_asks z) c.as_slice-else-has_degree-4.ensures) (of_join c.args.expression.now c.in-Join.first c.in-Join.rest c.in-Join.is)

pub terms_have-has_degree-requires : goal.terms_have-has_degree-requires
terms_have-has_degree-requires t c =
    let x = c.term-item.result in
    let l : size x.operand ≤ operand_sizes c.args.rest.now = subst (λ z. size z.operand ≤ operand_sizes c.args.rest.now) (sym c.term-item.is) (get_or-le-sum_by (λ z. size z.operand) c.args.rest.now c.terms.term-index x c.terms-test.true) in
    search rules

pub factors_have-has_degree-requires : goal.factors_have-has_degree-requires
factors_have-has_degree-requires t c =
    let x = c.factor-item.result in
    let l : size x.operand ≤ operand_sizes c.args.rest.now = subst (λ z. size z.operand ≤ operand_sizes c.args.rest.now) (sym c.factor-item.is) (get_or-le-sum_by (λ z. size z.operand) c.args.rest.now c.factors.factor-index x c.factors-test.true) in
    search rules

pub parts_have-has_degree-requires : goal.parts_have-has_degree-requires
parts_have-has_degree-requires t c =
    let x = c.part-item.result in
    let l : size x ≤ sizes c.args.rest.now = subst (λ z. size z ≤ sizes c.args.rest.now) (sym c.part-item.is) (get_or-le-sum_by size c.args.rest.now c.parts.part-index x c.parts-test.true) in
    search rules
