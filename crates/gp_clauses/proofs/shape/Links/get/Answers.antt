use Rattle.gp_values.specs.Names.{Name}
use Rattle.gp_syntax.specs.declared.expression.Signed.{Signed}
use Rattle.gp_syntax.specs.declared.expression.SumSign.{SumSign}
use Rattle.gp_syntax.specs.declared.expression.ProductSign.{ProductSign}
use Rattle.gp_syntax.specs.declared.expression.Expr.{Expr}
use Rattle.gp_clauses.specs.declared.shape.Operation.TheVariants as operations
use Rattle.gp_clauses.specs.Shapes.{sum_operation, product_operation}
use Rattle.gp_clauses.proofs.Walks.{mapped_at, mapped_below}
use Rattle.gp_clauses.proofs.shape.Links.get.Goals as goal

pub returns-in-Sum : goal.returns-in-Sum
returns-in-Sum c =
    rw (c.in-Sum.is, c.sum_operation.ensures) (mapped_at (λ (t : Signed SumSign (Expr Name)). (sum_operation t.sign, t.operand)) c.in-Sum.rest.now c.args.at c.index-rest-at.result (rw c.in-Sum.is at c.requires) c.index-rest-at.is)

pub returns-in-Product : goal.returns-in-Product
returns-in-Product c =
    rw (c.in-Product.is, c.product_operation.ensures) (mapped_at (λ (t : Signed ProductSign (Expr Name)). (product_operation t.sign, t.operand)) c.in-Product.rest.now c.args.at c.index-rest-at-in-Product.result (rw c.in-Product.is at c.requires) c.index-rest-at-in-Product.is)

pub returns-in-Dot : goal.returns-in-Dot
returns-in-Dot c =
    rw c.in-Dot.is (mapped_at (λ (e : Expr Name). (operations.Dot, e)) c.in-Dot.rest.now c.args.at c.index-rest-at-in-Dot.result (rw c.in-Dot.is at c.requires) c.index-rest-at-in-Dot.is)

pub returns-in-Join : goal.returns-in-Join
returns-in-Join c =
    rw c.in-Join.is (mapped_at (λ (e : Expr Name). (operations.Join, e)) c.in-Join.rest.now c.args.at c.index-rest-at-in-Join.result (rw c.in-Join.is at c.requires) c.index-rest-at-in-Join.is)

pub bounds-rest-at : goal.bounds-rest-at
bounds-rest-at c = mapped_below (λ (t : Signed SumSign (Expr Name)). (sum_operation t.sign, t.operand)) c.in-Sum.rest.now c.args.at (rw c.in-Sum.is at c.requires)

pub bounds-rest-at-in-Product : goal.bounds-rest-at-in-Product
bounds-rest-at-in-Product c = mapped_below (λ (t : Signed ProductSign (Expr Name)). (product_operation t.sign, t.operand)) c.in-Product.rest.now c.args.at (rw c.in-Product.is at c.requires)

pub bounds-rest-at-in-Dot : goal.bounds-rest-at-in-Dot
bounds-rest-at-in-Dot c = mapped_below (λ (e : Expr Name). (operations.Dot, e)) c.in-Dot.rest.now c.args.at (rw c.in-Dot.is at c.requires)

pub bounds-rest-at-in-Join : goal.bounds-rest-at-in-Join
bounds-rest-at-in-Join c = mapped_below (λ (e : Expr Name). (operations.Join, e)) c.in-Join.rest.now c.args.at (rw c.in-Join.is at c.requires)
