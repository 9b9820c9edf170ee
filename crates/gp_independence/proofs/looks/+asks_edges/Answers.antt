use Rattle.std.proofs.Common.{rules, ◌≡◌, ◌+◌, ◌≤◌, ℕ, sym, ap, subst, ◌∙◌}
use Rattle.std.specs.List.{list_any}
use Rattle.std.proofs.lemmas.List.Sums.{get_or-le-sum_by}
use Rattle.gp_values.specs.declared.marks.EdgeMark.{EdgeMark}
use Rattle.gp_syntax.specs.Tree.{expression_of, pattern_of}
use Rattle.gp_syntax.proofs.Trees.{condition_of-HasType, condition_of-HasEdge, condition_of-HasEdgeWith, condition_of-Compared, condition_of-Not}
use Rattle.gp_independence.specs.inside.Size.{condition_size, condition_sizes}
use Rattle.gp_independence.specs.Independent.{has_degree, asks_edges}
use Rattle.gp_independence.proofs.Asked.{condition_asks, then_first, else_rest, of_and, of_or}
use Rattle.gp_independence.proofs.Sizes.{condition_size-Not, condition_size-And, condition_size-Or}
use Rattle.gp_independence.proofs.looks.+asks_edges.Goals as goal

pub asks_edges-returns-in-HasType : goal.asks_edges-returns-in-HasType
asks_edges-returns-in-HasType t c =
    c.has_degree.ensures ∙ sym (ap condition_asks c.in-HasType.is ∙ ap asks_edges (condition_of-HasType {R = ℕ} (pattern_of {M = EdgeMark}) c.in-HasType.field-0 c.in-HasType.expression))

pub asks_edges-returns-in-HasEdge : goal.asks_edges-returns-in-HasEdge
asks_edges-returns-in-HasEdge t c =
    sym (ap condition_asks c.in-HasEdge.is ∙ ap asks_edges (condition_of-HasEdge {R = ℕ} (pattern_of {M = EdgeMark}) c.in-HasEdge.field-0 c.in-HasEdge.field-1))

pub asks_edges-returns-in-HasEdgeWith : goal.asks_edges-returns-in-HasEdgeWith
asks_edges-returns-in-HasEdgeWith t c =
    sym (ap condition_asks c.in-HasEdgeWith.is ∙ ap asks_edges (condition_of-HasEdgeWith {R = ℕ} (pattern_of {M = EdgeMark}) c.in-HasEdgeWith.field-0 c.in-HasEdgeWith.field-1 c.in-HasEdgeWith.field-2 c.in-HasEdgeWith.field-3))

pub asks_edges-returns-then-has_degree : goal.asks_edges-returns-then-has_degree
asks_edges-returns-then-has_degree t c =
    then_first _ _ (has_degree (expression_of c.in-Compared.right)) _ c.has_degree-in-Compared.ensures c.if-has_degree.true (ap condition_asks c.in-Compared.is ∙ ap asks_edges (condition_of-Compared {R = ℕ} (pattern_of {M = EdgeMark}) c.in-Compared.field-0 c.in-Compared.left c.in-Compared.right))

pub asks_edges-returns-else-has_degree : goal.asks_edges-returns-else-has_degree
asks_edges-returns-else-has_degree t c =
    else_rest _ _ _ _ _ c.has_degree-in-Compared.ensures c.if-has_degree.false c.has_degree-else-has_degree.ensures (ap condition_asks c.in-Compared.is ∙ ap asks_edges (condition_of-Compared {R = ℕ} (pattern_of {M = EdgeMark}) c.in-Compared.field-0 c.in-Compared.left c.in-Compared.right))

pub asks_edges-returns-in-Not : goal.asks_edges-returns-in-Not
asks_edges-returns-in-Not t c =
    c.asks_edges.ensures ∙ ap condition_asks c.get.ensures ∙ sym (ap condition_asks c.in-Not.is ∙ ap asks_edges (condition_of-Not {R = ℕ} (pattern_of {M = EdgeMark}) c.in-Not.part))

pub asks_edges-asks_edges-requires : goal.asks_edges-asks_edges-requires
asks_edges-asks_edges-requires t c =
    let is = c.get.ensures in
    let z : condition_size c.args.condition.now ≡ 2 + condition_size c.in-Not.part = ap condition_size c.in-Not.is ∙ condition_size-Not c.in-Not.part in
    search rules

pub asks_edges-asks_edges-requires-in-And : goal.asks_edges-asks_edges-requires-in-And
asks_edges-asks_edges-requires-in-And t c =
    let is = c.get-in-And.ensures in
    let z : condition_size c.args.condition.now ≡ 2 + condition_size c.in-And.first + condition_sizes c.in-And.rest = ap condition_size c.in-And.is ∙ condition_size-And c.in-And.first c.in-And.rest in
    search rules

pub asks_edges-some_asks-requires : goal.asks_edges-some_asks-requires
asks_edges-some_asks-requires t c =
    let are = c.as_slice.ensures in
    let z : condition_size c.args.condition.now ≡ 2 + condition_size c.in-And.first + condition_sizes c.in-And.rest = ap condition_size c.in-And.is ∙ condition_size-And c.in-And.first c.in-And.rest in
    search rules

pub asks_edges-returns-then-asks_edges : goal.asks_edges-returns-then-asks_edges
asks_edges-returns-then-asks_edges t c =
    then_first _ _ _ _ (c.asks_edges-in-And.ensures ∙ ap condition_asks c.get-in-And.ensures) c.if-asks_edges.true (of_and c.args.condition.now c.in-And.first c.in-And.rest c.in-And.is)

pub asks_edges-returns-else-asks_edges : goal.asks_edges-returns-else-asks_edges
asks_edges-returns-else-asks_edges t c =
    else_rest _ _ _ _ _ (c.asks_edges-in-And.ensures ∙ ap condition_asks c.get-in-And.ensures) c.if-asks_edges.false (c.some_asks.ensures ∙ ap (λ z. list_any condition_asks z) c.as_slice.ensures) (of_and c.args.condition.now c.in-And.first c.in-And.rest c.in-And.is)

pub asks_edges-asks_edges-requires-in-Or : goal.asks_edges-asks_edges-requires-in-Or
asks_edges-asks_edges-requires-in-Or t c =
    let is = c.get-in-Or.ensures in
    let z : condition_size c.args.condition.now ≡ 2 + condition_size c.in-Or.first + condition_sizes c.in-Or.rest = ap condition_size c.in-Or.is ∙ condition_size-Or c.in-Or.first c.in-Or.rest in
    search rules

pub asks_edges-some_asks-requires-else-asks_edges-2 : goal.asks_edges-some_asks-requires-else-asks_edges-2
asks_edges-some_asks-requires-else-asks_edges-2 t c =
    let are = c.as_slice-else-asks_edges-2.ensures in
    let z : condition_size c.args.condition.now ≡ 2 + condition_size c.in-Or.first + condition_sizes c.in-Or.rest = ap condition_size c.in-Or.is ∙ condition_size-Or c.in-Or.first c.in-Or.rest in
    search rules

pub asks_edges-returns-then-asks_edges-2 : goal.asks_edges-returns-then-asks_edges-2
asks_edges-returns-then-asks_edges-2 t c =
    then_first _ _ _ _ (c.asks_edges-in-Or.ensures ∙ ap condition_asks c.get-in-Or.ensures) c.if-asks_edges-2.true (of_or c.args.condition.now c.in-Or.first c.in-Or.rest c.in-Or.is)

pub asks_edges-returns-else-asks_edges-2 : goal.asks_edges-returns-else-asks_edges-2
asks_edges-returns-else-asks_edges-2 t c =
    else_rest _ _ _ _ _ (c.asks_edges-in-Or.ensures ∙ ap condition_asks c.get-in-Or.ensures) c.if-asks_edges-2.false (c.some_asks-else-asks_edges-2.ensures ∙ ap (λ z. list_any condition_asks z) c.as_slice-else-asks_edges-2.ensures) (of_or c.args.condition.now c.in-Or.first c.in-Or.rest c.in-Or.is)

pub some_asks-asks_edges-requires : goal.some_asks-asks_edges-requires
some_asks-asks_edges-requires t c =
    let x = c.part-item.result in
    let l : condition_size x ≤ condition_sizes c.args.rest.now = subst (λ z. condition_size z ≤ condition_sizes c.args.rest.now) (sym c.part-item.is) (get_or-le-sum_by condition_size c.args.rest.now c.parts.part-index x c.parts-test.true) in
    search rules
