-- Chains valued from the left, operand by operand.
use Rattle.std.specs.Prelude.{◌≡◌, ℕ, ℤ, neg_ℤ, ◌+ℤ◌, ◌-ℤ◌, ◌*ℤ◌, Bool, true, false, if◌then◌else◌, List, [], ◌∷◌, ◌++◌, Result, Ok, Err}
use Rattle.gp_memory.specs.Free.{Free}
use Rattle.gp_values.specs.declared.atom.Atom.{Atom}
use Rattle.gp_values.specs.declared.atom.Atom.TheVariants.{Str}
use Rattle.gp_syntax.specs.declared.expression.Expr.{Expr}
use Rattle.gp_syntax.specs.declared.expression.Signed.{Signed}
use Rattle.gp_syntax.specs.declared.expression.SumSign.{SumSign}
use Rattle.gp_syntax.specs.declared.expression.SumSign.TheVariants as sums
use Rattle.gp_syntax.specs.declared.expression.ProductSign.{ProductSign}
use Rattle.gp_syntax.specs.declared.expression.ProductSign.TheVariants as products
use Rattle.gp_syntax.specs.declared.expression.Cond.{Cond}
use Rattle.gp_syntax.specs.declared.rule.MarkPattern.{MarkPattern as Pattern}
use Rattle.gp_values.specs.declared.marks.EdgeMark.{EdgeMark}
use Rattle.gp_syntax.specs.Truth.{truth_of}
use Rattle.gp_syntax.specs.Tree.{expression_of, condition_of, pattern_of}
use Rattle.gp_syntax.specs.Value.{Setting, Valued, Value, NoValue, ◌>>=◌, value_of, ranged, quotient, integer, characters, number}
use Rattle.gp_eval.specs.declared.valued.Missing.{Missing}
use Rattle.gp_eval.specs.declared.valued.Missing.TheVariants as missing

-- an answer that is handed on by `?`
abbrev pub Lacks : {X : Type 0} → Missing → Valued X → Type 0
Lacks (missing.NoValue kind) meaning = meaning ≡ NoValue kind
Lacks missing.NoMemory meaning = Free

abbrev pub Gives : {X : Type 0} → Result X Missing → Valued X → Type 0
Gives (Ok x) meaning = meaning ≡ Value x
Gives (Err e) meaning = Lacks e meaning

abbrev pub Values : Type 0
Values = Valued (List Atom)

-- of a value its integer alone, and of an integer its list
abbrev pub counted : Values → Valued ℤ
counted v = v >>= λ x. Value (integer x)

abbrev pub listed : Valued ℤ → Values
listed v = v >>= λ z. Value (number z)

abbrev pub opposite : Valued ℤ → Valued ℤ
opposite v = v >>= λ z. counted (ranged (neg_ℤ z))

abbrev pub added : SumSign → ℤ → ℤ → Values
added sums.Plus x y = ranged (x +ℤ y)
added sums.Minus x y = ranged (x -ℤ y)

abbrev pub multiplied : ProductSign → ℤ → ℤ → Values
multiplied products.Times x y = ranged (x *ℤ y)
multiplied products.Over x y = quotient x y

-- what is valued so far, and the next operand
abbrev pub sum_step : Setting → Values → Signed SumSign (Expr ℕ) → Values
sum_step s v t = v >>= λ x. value_of (expression_of t.operand) s >>= λ y. added t.sign (integer x) (integer y)

abbrev pub product_step : Setting → Values → Signed ProductSign (Expr ℕ) → Values
product_step s v t = v >>= λ x. value_of (expression_of t.operand) s >>= λ y. multiplied t.sign (integer x) (integer y)

abbrev pub dot_step : Setting → Values → Expr ℕ → Values
dot_step s v e = v >>= λ x. value_of (expression_of e) s >>= λ y. Value (Str (characters x ++ characters y) ∷ [])

abbrev pub join_step : Setting → Values → Expr ℕ → Values
join_step s v e = v >>= λ x. value_of (expression_of e) s >>= λ y. Value (x ++ y)

-- ---- conditions

abbrev pub and_step : Setting → Valued Bool → Cond ℕ (Pattern EdgeMark) → Valued Bool
and_step s v c = v >>= λ x. if x then truth_of (condition_of pattern_of c) s else Value false

abbrev pub or_step : Setting → Valued Bool → Cond ℕ (Pattern EdgeMark) → Valued Bool
or_step s v c = v >>= λ x. if x then Value true else truth_of (condition_of pattern_of c) s
