-- How large an expression is: what recursion over it takes less of at each call.
use Rattle.std.specs.Prelude.{ℕ, ◌+◌, List, [], ◌∷◌, map, Option}
use Rattle.gp_values.specs.Names.{Name}
use Rattle.gp_syntax.specs.declared.expression.Signed.{Signed}
use Rattle.gp_syntax.specs.declared.expression.Expr.{Expr}
use Rattle.gp_syntax.specs.declared.expression.Expr.TheOpen.{Expr-F}
use Rattle.gp_syntax.specs.declared.expression.Expr.TheFolds.{fold-Expr}
use Rattle.gp_syntax.specs.declared.expression.Cond.{Cond}
use Rattle.gp_syntax.specs.declared.expression.Cond.TheOpen.{Cond-F}
use Rattle.gp_syntax.specs.declared.expression.Cond.TheFolds.{fold-Cond}

abbrev pub total : List ℕ → ℕ
total [] = 0
total (n ∷ ns) = n + total ns

abbrev pub operand_sum : {Sign : Type 0} → List (Signed Sign ℕ) → ℕ
operand_sum {Sign} ts = total (map (λ (t : Signed Sign ℕ). t.operand) ts)

abbrev pub size_step : Expr-F Name ℕ → ℕ
size_step (Expr-F.Negated e) = 1 + e
size_step (Expr-F.Sum e ts) = 1 + e + operand_sum ts
size_step (Expr-F.Product e ts) = 1 + e + operand_sum ts
size_step (Expr-F.Dot e xs) = 1 + e + total xs
size_step (Expr-F.Join e xs) = 1 + e + total xs
size_step other = 1

unfoldable pub size : Expr Name → ℕ
size = fold-Expr Name ℕ size_step

abbrev pub sizes : List (Expr Name) → ℕ
sizes es = total (map size es)

abbrev pub operand_sizes : {Sign : Type 0} → List (Signed Sign (Expr Name)) → ℕ
operand_sizes {Sign} ts = total (map (λ (t : Signed Sign (Expr Name)). size t.operand) ts)

-- ---- conditions

abbrev pub condition_step : Cond-F Name (Option Name) ℕ → ℕ
condition_step (Cond-F.Not c) = 1 + c
condition_step (Cond-F.And c ds) = 1 + c + total ds
condition_step (Cond-F.Or c ds) = 1 + c + total ds
condition_step other = 1

unfoldable pub condition_size : Cond Name (Option Name) → ℕ
condition_size = fold-Cond Name (Option Name) ℕ condition_step

abbrev pub condition_sizes : List (Cond Name (Option Name)) → ℕ
condition_sizes cs = total (map condition_size cs)
