use Rattle.std.proofs.Common.{◌≡◌, ◌+◌, ◌∙◌, ap, arith}
use Rattle.gp_values.specs.Names.{Name}
use Rattle.gp_syntax.specs.Tree.{expression_of}
use Rattle.gp_syntax.proofs.Trees.{expression_of-Number, expression_of-Text, expression_of-Variable, expression_of-InDegree, expression_of-OutDegree, expression_of-Length, expression_of-Empty, expression_of-Negated, expression_of-Sum, expression_of-Product, expression_of-Dot, expression_of-Join}
use Rattle.gp_clauses.specs.Size.{size, sizes, operand_sizes}
use Rattle.gp_clauses.proofs.Shapes.{sum_chain, product_chain, dot_chain, join_chain, size-Negated, size-Sum, size-Product, size-Dot, size-Join, size_within}
use Rattle.gp_clauses.proofs.shape.shape_of.Goals as goal

pub returns-in-Number-clause-whole : goal.returns-in-Number-clause-whole
returns-in-Number-clause-whole c = ap expression_of c.in-Number.is ∙ expression_of-Number {R = Name} c.in-Number.z

pub returns-in-Text-clause-whole : goal.returns-in-Text-clause-whole
returns-in-Text-clause-whole c = ap expression_of c.in-Text.is ∙ expression_of-Text {R = Name} c.in-Text.text

pub returns-in-Variable-clause-whole : goal.returns-in-Variable-clause-whole
returns-in-Variable-clause-whole c = ap expression_of c.in-Variable.is ∙ expression_of-Variable {R = Name} c.in-Variable.x

pub returns-in-InDegree-clause-whole : goal.returns-in-InDegree-clause-whole
returns-in-InDegree-clause-whole c = ap expression_of c.in-InDegree.is ∙ expression_of-InDegree {R = Name} c.in-InDegree.n

pub returns-in-OutDegree-clause-whole : goal.returns-in-OutDegree-clause-whole
returns-in-OutDegree-clause-whole c = ap expression_of c.in-OutDegree.is ∙ expression_of-OutDegree {R = Name} c.in-OutDegree.n

pub returns-in-Length-clause-whole : goal.returns-in-Length-clause-whole
returns-in-Length-clause-whole c = ap expression_of c.in-Length.is ∙ expression_of-Length {R = Name} c.in-Length.x

pub returns-in-Empty-clause-whole : goal.returns-in-Empty-clause-whole
returns-in-Empty-clause-whole c = ap expression_of c.in-Empty.is ∙ expression_of-Empty {R = Name}

pub returns-in-Negated-clause-whole : goal.returns-in-Negated-clause-whole
returns-in-Negated-clause-whole c = rw (c.in-Negated.is, expression_of-Negated c.in-Negated.operand, ← c.get.ensures)

pub returns-in-Negated-clause-smaller : goal.returns-in-Negated-clause-smaller
returns-in-Negated-clause-smaller c =
    let z : size c.args.e.now ≡ 1 + size c.in-Negated.operand = ap size c.in-Negated.is ∙ size-Negated c.in-Negated.operand in
    rw c.get.ensures (omega arith)

pub returns-in-Sum-clause-whole : goal.returns-in-Sum-clause-whole
returns-in-Sum-clause-whole c =
    rw (c.get-in-Sum.ensures, c.as_slice.ensures) (ap expression_of c.in-Sum.is ∙ expression_of-Sum c.in-Sum.first c.in-Sum.rest ∙ sum_chain (expression_of c.in-Sum.first) c.in-Sum.rest)

pub returns-in-Sum-clause-smaller : goal.returns-in-Sum-clause-smaller
returns-in-Sum-clause-smaller c =
    let z : size c.args.e.now ≡ 1 + size c.in-Sum.first + operand_sizes c.in-Sum.rest = ap size c.in-Sum.is ∙ size-Sum c.in-Sum.first c.in-Sum.rest in
    rw (c.get-in-Sum.ensures, c.as_slice.ensures) (omega arith, λ k l h. omega (arith, size_within _ c.in-Sum.rest k l h))

pub returns-in-Product-clause-whole : goal.returns-in-Product-clause-whole
returns-in-Product-clause-whole c =
    rw (c.get-in-Product.ensures, c.as_slice-in-Product.ensures) (ap expression_of c.in-Product.is ∙ expression_of-Product c.in-Product.first c.in-Product.rest ∙ product_chain (expression_of c.in-Product.first) c.in-Product.rest)

pub returns-in-Product-clause-smaller : goal.returns-in-Product-clause-smaller
returns-in-Product-clause-smaller c =
    let z : size c.args.e.now ≡ 1 + size c.in-Product.first + operand_sizes c.in-Product.rest = ap size c.in-Product.is ∙ size-Product c.in-Product.first c.in-Product.rest in
    rw (c.get-in-Product.ensures, c.as_slice-in-Product.ensures) (omega arith, λ k l h. omega (arith, size_within _ c.in-Product.rest k l h))

pub returns-in-Dot-clause-whole : goal.returns-in-Dot-clause-whole
returns-in-Dot-clause-whole c =
    rw (c.get-in-Dot.ensures, c.as_slice-in-Dot.ensures) (ap expression_of c.in-Dot.is ∙ expression_of-Dot c.in-Dot.first c.in-Dot.rest ∙ dot_chain (expression_of c.in-Dot.first) c.in-Dot.rest)

pub returns-in-Dot-clause-smaller : goal.returns-in-Dot-clause-smaller
returns-in-Dot-clause-smaller c =
    let z : size c.args.e.now ≡ 1 + size c.in-Dot.first + sizes c.in-Dot.rest = ap size c.in-Dot.is ∙ size-Dot c.in-Dot.first c.in-Dot.rest in
    rw (c.get-in-Dot.ensures, c.as_slice-in-Dot.ensures) (omega arith, λ k l h. omega (arith, size_within _ c.in-Dot.rest k l h))

pub returns-in-Join-clause-whole : goal.returns-in-Join-clause-whole
returns-in-Join-clause-whole c =
    rw (c.get-in-Join.ensures, c.as_slice-in-Join.ensures) (ap expression_of c.in-Join.is ∙ expression_of-Join c.in-Join.first c.in-Join.rest ∙ join_chain (expression_of c.in-Join.first) c.in-Join.rest)

pub returns-in-Join-clause-smaller : goal.returns-in-Join-clause-smaller
returns-in-Join-clause-smaller c =
    let z : size c.args.e.now ≡ 1 + size c.in-Join.first + sizes c.in-Join.rest = ap size c.in-Join.is ∙ size-Join c.in-Join.first c.in-Join.rest in
    rw (c.get-in-Join.ensures, c.as_slice-in-Join.ensures) (omega arith, λ k l h. omega (arith, size_within _ c.in-Join.rest k l h))
