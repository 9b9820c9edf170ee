use Rattle.std.proofs.Common.{◌≡◌, ◌+◌, ◌∙◌, Option, ap, arith}
use Rattle.gp_values.specs.Names.{Name}
use Rattle.gp_syntax.proofs.Trees.{condition_of-HasType, condition_of-HasEdge, condition_of-HasEdgeWith, condition_of-Compared, condition_of-Not, condition_of-And, condition_of-Or}
use Rattle.gp_clauses.specs.Size.{condition_size, condition_sizes}
use Rattle.gp_clauses.specs.ConditionShapes.{named_condition}
use Rattle.gp_clauses.proofs.ConditionShapes.{and_chain, or_chain, size-Not, size-And, size-Or, part_within}
use Rattle.gp_clauses.proofs.condition_shape.condition_shape_of.Goals as goal

pub returns-in-HasType-clause-whole : goal.returns-in-HasType-clause-whole
returns-in-HasType-clause-whole c = ap named_condition c.in-HasType.is ∙ condition_of-HasType {R = Name} {M = Option Name} {Mark = Option Name} (λ m. m) c.in-HasType.wanted c.in-HasType.e

pub returns-in-HasEdge-clause-whole : goal.returns-in-HasEdge-clause-whole
returns-in-HasEdge-clause-whole c = ap named_condition c.in-HasEdge.is ∙ condition_of-HasEdge {R = Name} {M = Option Name} {Mark = Option Name} (λ m. m) c.in-HasEdge.source c.in-HasEdge.target

pub returns-in-HasEdgeWith-clause-whole : goal.returns-in-HasEdgeWith-clause-whole
returns-in-HasEdgeWith-clause-whole c = ap named_condition c.in-HasEdgeWith.is ∙ condition_of-HasEdgeWith {R = Name} {M = Option Name} {Mark = Option Name} (λ m. m) c.in-HasEdgeWith.source c.in-HasEdgeWith.target c.in-HasEdgeWith.label c.in-HasEdgeWith.mark

pub returns-in-Compared-clause-whole : goal.returns-in-Compared-clause-whole
returns-in-Compared-clause-whole c = ap named_condition c.in-Compared.is ∙ condition_of-Compared {R = Name} {M = Option Name} {Mark = Option Name} (λ m. m) c.in-Compared.comparison c.in-Compared.d c.in-Compared.e

pub returns-in-Not-clause-whole : goal.returns-in-Not-clause-whole
returns-in-Not-clause-whole c = rw c.get.ensures (ap named_condition c.in-Not.is ∙ condition_of-Not (λ m. m) c.in-Not.part)

pub returns-in-Not-clause-smaller : goal.returns-in-Not-clause-smaller
returns-in-Not-clause-smaller c =
    let z : condition_size c.args.c.now ≡ 1 + condition_size c.in-Not.part = ap condition_size c.in-Not.is ∙ size-Not c.in-Not.part in
    rw c.get.ensures (omega arith)

pub returns-in-And-clause-whole : goal.returns-in-And-clause-whole
returns-in-And-clause-whole c =
    rw (c.get-in-And.ensures, c.as_slice.ensures) (ap named_condition c.in-And.is ∙ condition_of-And (λ m. m) c.in-And.first c.in-And.rest ∙ and_chain (named_condition c.in-And.first) c.in-And.rest)

pub returns-in-And-clause-smaller : goal.returns-in-And-clause-smaller
returns-in-And-clause-smaller c =
    let z : condition_size c.args.c.now ≡ 1 + condition_size c.in-And.first + condition_sizes c.in-And.rest = ap condition_size c.in-And.is ∙ size-And c.in-And.first c.in-And.rest in
    rw (c.get-in-And.ensures, c.as_slice.ensures) (omega arith, λ k d h. omega (arith, part_within c.in-And.rest k d h))

pub returns-in-Or-clause-whole : goal.returns-in-Or-clause-whole
returns-in-Or-clause-whole c =
    rw (c.get-in-Or.ensures, c.as_slice-in-Or.ensures) (ap named_condition c.in-Or.is ∙ condition_of-Or (λ m. m) c.in-Or.first c.in-Or.rest ∙ or_chain (named_condition c.in-Or.first) c.in-Or.rest)

pub returns-in-Or-clause-smaller : goal.returns-in-Or-clause-smaller
returns-in-Or-clause-smaller c =
    let z : condition_size c.args.c.now ≡ 1 + condition_size c.in-Or.first + condition_sizes c.in-Or.rest = ap condition_size c.in-Or.is ∙ size-Or c.in-Or.first c.in-Or.rest in
    rw (c.get-in-Or.ensures, c.as_slice-in-Or.ensures) (omega arith, λ k d h. omega (arith, part_within c.in-Or.rest k d h))
