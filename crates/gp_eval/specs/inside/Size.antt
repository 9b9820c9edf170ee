-- How large an expression is: what recursion over it takes less of at each call. An operation counts for the functions
-- that are called one after another for it.
use Rattle.std.specs.Prelude.{ℕ, ◌+◌, List, [], ◌∷◌, map}
use Rattle.gp_syntax.specs.declared.expression.Signed.{Signed}
use Rattle.gp_syntax.specs.declared.expression.Expr.{Expr}
use Rattle.gp_syntax.specs.declared.expression.Expr.TheOpen.{Expr-F}
use Rattle.gp_syntax.specs.declared.expression.Expr.TheFolds.{fold-Expr}
use Rattle.gp_syntax.specs.declared.expression.Cond.{Cond}
use Rattle.gp_syntax.specs.declared.expression.Cond.TheOpen.{Cond-F}
use Rattle.gp_syntax.specs.declared.expression.Cond.TheFolds.{fold-Cond}
use Rattle.gp_syntax.specs.declared.rule.MarkPattern.{MarkPattern as Pattern}
use Rattle.gp_values.specs.declared.marks.EdgeMark.{EdgeMark}

abbrev pub total : List ℕ → ℕ
total [] = 0
total (n ∷ ns) = n + total ns

abbrev pub operand_sum : {Sign : Type 0} → List (Signed Sign ℕ) → ℕ
operand_sum {Sign} ts = total (map (λ (t : Signed Sign ℕ). t.operand) ts)

abbrev pub size_step : Expr-F ℕ ℕ → ℕ
size_step (Expr-F.Negated e) = 2 + e
size_step (Expr-F.Sum e ts) = 3 + e + operand_sum ts
size_step (Expr-F.Product e ts) = 3 + e + operand_sum ts
size_step (Expr-F.Dot e xs) = 2 + e + total xs
size_step (Expr-F.Join e xs) = 2 + e + total xs
size_step other = 1

unfoldable pub size : Expr ℕ → ℕ
size = fold-Expr ℕ ℕ size_step

abbrev pub sizes : List (Expr ℕ) → ℕ
sizes es = total (map size es)

abbrev pub operand_sizes : {Sign : Type 0} → List (Signed Sign (Expr ℕ)) → ℕ
operand_sizes {Sign} ts = total (map (λ (t : Signed Sign (Expr ℕ)). size t.operand) ts)

-- ---- conditions

abbrev pub condition_step : Cond-F ℕ (Pattern EdgeMark) ℕ → ℕ
condition_step (Cond-F.Not c) = 2 + c
condition_step (Cond-F.And c cs) = 2 + c + total cs
condition_step (Cond-F.Or c cs) = 2 + c + total cs
condition_step other = 1

unfoldable pub condition_size : Cond ℕ (Pattern EdgeMark) → ℕ
condition_size = fold-Cond ℕ (Pattern EdgeMark) ℕ condition_step

abbrev pub condition_sizes : List (Cond ℕ (Pattern EdgeMark)) → ℕ
condition_sizes cs = total (map condition_size cs)
