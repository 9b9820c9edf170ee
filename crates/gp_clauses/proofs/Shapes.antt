-- One layer of an expression.
use Rattle.std.proofs.Common.{◌≡◌, ℕ, zero, suc, ◌+◌, ◌≤◌, List, [], ◌∷◌, map, Some, slice_get, refl, sym, ap, ◌∙◌, arith}
use Rattle.gp_values.specs.Names.{Name}
use Rattle.gp_syntax.specs.declared.expression.Signed.{Signed}
use Rattle.gp_syntax.specs.declared.expression.SumSign.{SumSign}
use Rattle.gp_syntax.specs.declared.expression.SumSign.TheVariants as sums
use Rattle.gp_syntax.specs.declared.expression.ProductSign.{ProductSign}
use Rattle.gp_syntax.specs.declared.expression.ProductSign.TheVariants as products
use Rattle.gp_syntax.specs.declared.expression.Expr.{Expr}
use Rattle.gp_syntax.specs.declared.expression.Expr.TheVariants as tree
use Rattle.gp_syntax.specs.declared.expression.Expr.TheOpen.{Expr-F}
use Rattle.gp_syntax.specs.declared.expression.Expr.TheFolds.{fold-roll-Expr}
use Rattle.gp_syntax.specs.Expression.{Expression, Dot, Join}
use Rattle.gp_syntax.specs.Tree.{expression_of, operands_of, sum, product, dots, joins, added, multiplied}
use Rattle.gp_clauses.specs.declared.shape.Operation.{Operation}
use Rattle.gp_clauses.specs.declared.shape.Operation.TheVariants as operations
use Rattle.gp_clauses.specs.Size.{total, size_step, size, sizes, operand_sizes}
use Rattle.gp_clauses.specs.Shapes.{sum_operation, product_operation, applied, chain}

-- ---- what chains stand for

pub sum_chain : (e : Expression Name) (ts : List (Signed SumSign (Expr Name))) → sum e (operands_of ts) ≡ chain e (map (λ (t : Signed SumSign (Expr Name)). (sum_operation t.sign, t.operand)) ts)
sum_chain e [] = refl
sum_chain e (t ∷ ts) = sum_chain (added t.sign e (expression_of t.operand)) ts ∙ ap (λ d. chain d (map (λ (t : Signed SumSign (Expr Name)). (sum_operation t.sign, t.operand)) ts)) (by t.sign)
  where
    by : (sign : SumSign) → added sign e (expression_of t.operand) ≡ applied (sum_operation sign) e (expression_of t.operand)
    by sums.Plus = refl
    by sums.Minus = refl

pub product_chain : (e : Expression Name) (ts : List (Signed ProductSign (Expr Name))) → product e (operands_of ts) ≡ chain e (map (λ (t : Signed ProductSign (Expr Name)). (product_operation t.sign, t.operand)) ts)
product_chain e [] = refl
product_chain e (t ∷ ts) = product_chain (multiplied t.sign e (expression_of t.operand)) ts ∙ ap (λ d. chain d (map (λ (t : Signed ProductSign (Expr Name)). (product_operation t.sign, t.operand)) ts)) (by t.sign)
  where
    by : (sign : ProductSign) → multiplied sign e (expression_of t.operand) ≡ applied (product_operation sign) e (expression_of t.operand)
    by products.Times = refl
    by products.Over = refl

pub dot_chain : (e : Expression Name) (es : List (Expr Name)) → dots e (map expression_of es) ≡ chain e (map (λ (x : Expr Name). (operations.Dot, x)) es)
dot_chain e [] = refl
dot_chain e (x ∷ xs) = dot_chain (Dot e (expression_of x)) xs

pub join_chain : (e : Expression Name) (es : List (Expr Name)) → joins e (map expression_of es) ≡ chain e (map (λ (x : Expr Name). (operations.Join, x)) es)
join_chain e [] = refl
join_chain e (x ∷ xs) = join_chain (Join e (expression_of x)) xs

-- ---- sizes

pub size-Negated : (e : Expr Name) → size (tree.Negated e) ≡ 1 + size e
unfolding size
size-Negated e = ap size (sym (tree.rolls-Negated e)) ∙ fold-roll-Expr Name ℕ size_step (Expr-F.Negated e)

twice : {Sign : Type 0} (ts : List (Signed Sign (Expr Name))) → map (λ (t : Signed Sign ℕ). t.operand) (map (λ (t : Signed Sign (Expr Name)). record { sign = t.sign; operand = size t.operand }) ts) ≡ map (λ (t : Signed Sign (Expr Name)). size t.operand) ts
twice [] = refl
twice (t ∷ ts) = λ i. size t.operand ∷ twice ts i

pub size-Sum : (e : Expr Name) (ts : List (Signed SumSign (Expr Name))) → size (tree.Sum e ts) ≡ 1 + size e + operand_sizes ts
unfolding size
size-Sum e ts = ap size (sym (tree.rolls-Sum e ts)) ∙ fold-roll-Expr Name ℕ size_step (Expr-F.Sum e ts) ∙ ap (λ n. 1 + size e + total n) (twice ts)

pub size-Product : (e : Expr Name) (ts : List (Signed ProductSign (Expr Name))) → size (tree.Product e ts) ≡ 1 + size e + operand_sizes ts
unfolding size
size-Product e ts = ap size (sym (tree.rolls-Product e ts)) ∙ fold-roll-Expr Name ℕ size_step (Expr-F.Product e ts) ∙ ap (λ n. 1 + size e + total n) (twice ts)

pub size-Dot : (e : Expr Name) (es : List (Expr Name)) → size (tree.Dot e es) ≡ 1 + size e + sizes es
unfolding size
size-Dot e es = ap size (sym (tree.rolls-Dot e es)) ∙ fold-roll-Expr Name ℕ size_step (Expr-F.Dot e es)

pub size-Join : (e : Expr Name) (es : List (Expr Name)) → size (tree.Join e es) ≡ 1 + size e + sizes es
unfolding size
size-Join e es = ap size (sym (tree.rolls-Join e es)) ∙ fold-roll-Expr Name ℕ size_step (Expr-F.Join e es)

-- what stands in a list of operands is no larger than all of them
pub size_within : {A : Type 0} (f : A → Operation × Expr Name) (xs : List A) (k : ℕ) (l : Operation × Expr Name) → slice_get (map f xs) k ≡ Some l → size l.1 ≤ total (map (λ (x : A). size (f x).1) xs)
size_within f [] k l h = absurd cc
size_within f (x ∷ xs) zero l h = let e : f x ≡ l = cc in let s : size (f x).1 ≡ size l.1 = ap (λ m. size m.1) e in omega arith
size_within f (x ∷ xs) (suc k) l h = omega (arith, size_within f xs k l h)
