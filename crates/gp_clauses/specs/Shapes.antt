-- What one layer of an expression stands for.
use Rattle.std.specs.Prelude.{ℕ, ◌<◌, List, map, fold, slice_get, ◌≡◌, Some}
use Rattle.gp_values.specs.Names.{Name}
use Rattle.gp_syntax.specs.declared.expression.Signed.{Signed}
use Rattle.gp_syntax.specs.declared.expression.SumSign.{SumSign}
use Rattle.gp_syntax.specs.declared.expression.SumSign.TheVariants as sums
use Rattle.gp_syntax.specs.declared.expression.ProductSign.{ProductSign}
use Rattle.gp_syntax.specs.declared.expression.ProductSign.TheVariants as products
use Rattle.gp_syntax.specs.declared.expression.Expr.{Expr}
use Rattle.gp_syntax.specs.Expression.{Expression, Number, Text, Variable, In_degree, Out_degree, Length_of, Negated, Plus, Minus, Times, Over, Dot, Empty, Join}
use Rattle.gp_syntax.specs.Tree.{expression_of}
use Rattle.gp_clauses.specs.declared.shape.Operation.{Operation}
use Rattle.gp_clauses.specs.declared.shape.Operation.TheVariants as operations
use Rattle.gp_clauses.specs.declared.shape.Links.{Links}
use Rattle.gp_clauses.specs.declared.shape.Links.TheVariants as links
use Rattle.gp_clauses.specs.declared.shape.Shape.{Shape}
use Rattle.gp_clauses.specs.declared.shape.Shape.TheVariants as shapes
use Rattle.gp_clauses.specs.Size.{size}

abbrev pub sum_operation : SumSign → Operation
sum_operation sums.Plus = operations.Plus
sum_operation sums.Minus = operations.Minus

abbrev pub product_operation : ProductSign → Operation
product_operation products.Times = operations.Times
product_operation products.Over = operations.Over

abbrev pub applied : {Ref : Type 0} → Operation → Expression Ref → Expression Ref → Expression Ref
applied operations.Plus d e = Plus d e
applied operations.Minus d e = Minus d e
applied operations.Times d e = Times d e
applied operations.Over d e = Over d e
applied operations.Dot d e = Dot d e
applied operations.Join d e = Join d e

-- the further operands, each with the operation before it
abbrev pub operands : Links → List (Operation × Expr Name)
operands (links.Sum ts) = map (λ (t : Signed SumSign (Expr Name)). (sum_operation t.sign, t.operand)) ts.now
operands (links.Product ts) = map (λ (t : Signed ProductSign (Expr Name)). (product_operation t.sign, t.operand)) ts.now
operands (links.Dot es) = map (λ (e : Expr Name). (operations.Dot, e)) es.now
operands (links.Join es) = map (λ (e : Expr Name). (operations.Join, e)) es.now

abbrev pub with_operand : Expression Name → (Operation × Expr Name) → Expression Name
with_operand d l = applied l.0 d (expression_of l.1)

abbrev pub chain : Expression Name → List (Operation × Expr Name) → Expression Name
chain e ls = fold with_operand e ls

abbrev pub expression_in : Shape → Expression Name
expression_in (shapes.Number z) = Number z.now
expression_in (shapes.Text s) = Text s.now
expression_in (shapes.Variable x) = Variable x.now
expression_in (shapes.InDegree n) = In_degree n.now
expression_in (shapes.OutDegree n) = Out_degree n.now
expression_in (shapes.Length x) = Length_of x.now
expression_in shapes.Empty = Empty
expression_in (shapes.Negated e) = Negated (expression_of e.now)
expression_in (shapes.Chain e ls) = chain (expression_of e.now) (operands ls)

-- the operands are smaller than this
abbrev pub IsSmaller : Shape → ℕ → Type 0
IsSmaller (shapes.Negated e) n = size e.now < n
IsSmaller (shapes.Chain e ls) n = (size e.now < n) × ((k : ℕ) (l : Operation × Expr Name) → slice_get (operands ls) k ≡ Some l → size l.1 < n)
IsSmaller other n = Unit {0}
