-- How large trees are: what recursion over them takes less of at each call.
use Rattle.std.specs.Prelude.{ℕ, ◌+◌, List, [], ◌∷◌, map, Option}
use Rattle.gp_values.specs.Names.{Name}
use Rattle.gp_syntax.specs.declared.expression.Signed.{Signed}
use Rattle.gp_syntax.specs.declared.expression.Expr.{Expr}
use Rattle.gp_syntax.specs.declared.expression.Expr.TheOpen.{Expr-F}
use Rattle.gp_syntax.specs.declared.expression.Expr.TheFolds.{fold-Expr}
use Rattle.gp_syntax.specs.declared.expression.Cond.{Cond}
use Rattle.gp_syntax.specs.declared.expression.Cond.TheOpen.{Cond-F}
use Rattle.gp_syntax.specs.declared.expression.Cond.TheFolds.{fold-Cond}
use Rattle.gp_syntax.specs.declared.tree.CommandTree.{CommandTree}
use Rattle.gp_syntax.specs.declared.tree.CommandTree.TheOpen.{CommandTree-F}
use Rattle.gp_syntax.specs.declared.tree.CommandTree.TheFolds.{fold-CommandTree}
use Rattle.gp_syntax.specs.declared.tree.Decl.{Decl}
use Rattle.gp_syntax.specs.declared.tree.Decl.TheOpen.{Decl-F}
use Rattle.gp_syntax.specs.declared.tree.Decl.TheFolds.{fold-Decl}

abbrev pub total : List ℕ → ℕ
total [] = 0
total (n ∷ ns) = n + total ns

abbrev pub operand_sum : {Sign : Type 0} → List (Signed Sign ℕ) → ℕ
operand_sum {Sign} ts = total (map (λ (t : Signed Sign ℕ). t.operand) ts)

abbrev pub expression_size_step : Expr-F Name ℕ → ℕ
expression_size_step (Expr-F.Negated e) = 1 + e
expression_size_step (Expr-F.Sum e ts) = 1 + e + operand_sum ts
expression_size_step (Expr-F.Product e ts) = 1 + e + operand_sum ts
expression_size_step (Expr-F.Dot e xs) = 1 + e + total xs
expression_size_step (Expr-F.Join e xs) = 1 + e + total xs
expression_size_step other = 1

unfoldable pub expression_size : Expr Name → ℕ
expression_size = fold-Expr Name ℕ expression_size_step

abbrev pub expression_sizes : List (Expr Name) → ℕ
expression_sizes es = total (map expression_size es)

abbrev pub operand_sizes : {Sign : Type 0} → List (Signed Sign (Expr Name)) → ℕ
operand_sizes {Sign} ts = total (map (λ (t : Signed Sign (Expr Name)). expression_size t.operand) ts)

abbrev pub condition_size_step : Cond-F Name (Option Name) ℕ → ℕ
condition_size_step (Cond-F.Not c) = 1 + c
condition_size_step (Cond-F.And c ds) = 1 + c + total ds
condition_size_step (Cond-F.Or c ds) = 1 + c + total ds
condition_size_step other = 1

unfoldable pub condition_size : Cond Name (Option Name) → ℕ
condition_size = fold-Cond Name (Option Name) ℕ condition_size_step

abbrev pub condition_sizes : List (Cond Name (Option Name)) → ℕ
condition_sizes cs = total (map condition_size cs)

abbrev pub command_size_step : CommandTree-F ℕ → ℕ
command_size_step (CommandTree-F.Seq x xs) = 1 + x + total xs
command_size_step (CommandTree-F.If c x y) = 1 + c + x + y
command_size_step (CommandTree-F.Try c x y) = 1 + c + x + y
command_size_step (CommandTree-F.Loop x) = 1 + x
command_size_step (CommandTree-F.Or x xs) = 1 + x + total xs
command_size_step other = 1

unfoldable pub command_size : CommandTree → ℕ
command_size = fold-CommandTree ℕ command_size_step

abbrev pub command_sizes : List CommandTree → ℕ
command_sizes cs = total (map command_size cs)

abbrev pub declaration_size_step : Decl-F ℕ → ℕ
declaration_size_step (Decl-F.Rule d) = 1
declaration_size_step (Decl-F.Procedure n ds body) = 1 + total ds

unfoldable pub declaration_size : Decl → ℕ
declaration_size = fold-Decl ℕ declaration_size_step

abbrev pub declaration_sizes : List Decl → ℕ
declaration_sizes ds = total (map declaration_size ds)
