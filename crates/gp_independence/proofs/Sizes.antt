-- The sizes of chains.
use Rattle.std.proofs.Common.{◌≡◌, ℕ, ◌+◌, List, [], ◌∷◌, map, refl, sym, ap, ◌∙◌}
use Rattle.std.specs.List.{sum}
use Rattle.std.proofs.lemmas.List.Sums.{sum-map}
use Rattle.gp_values.specs.declared.marks.EdgeMark.{EdgeMark}
use Rattle.gp_syntax.specs.declared.rule.MarkPattern.{MarkPattern}
use Rattle.gp_syntax.specs.declared.expression.Signed.{Signed}
use Rattle.gp_syntax.specs.declared.expression.SumSign.{SumSign}
use Rattle.gp_syntax.specs.declared.expression.ProductSign.{ProductSign}
use Rattle.gp_syntax.specs.declared.expression.Expr.{Expr}
use Rattle.gp_syntax.specs.declared.expression.Expr.TheVariants as tree
use Rattle.gp_syntax.specs.declared.expression.Expr.TheOpen.{Expr-F}
use Rattle.gp_syntax.specs.declared.expression.Expr.TheFolds.{fold-roll-Expr}
use Rattle.gp_syntax.specs.declared.expression.Cond.{Cond}
use Rattle.gp_syntax.specs.declared.expression.Cond.TheVariants as conditions
use Rattle.gp_syntax.specs.declared.expression.Cond.TheOpen.{Cond-F}
use Rattle.gp_syntax.specs.declared.expression.Cond.TheFolds.{fold-roll-Cond}
use Rattle.gp_independence.specs.inside.Size.{size_step, size, sizes, operand_sizes, condition_step, condition_size, condition_sizes}

-- ---- expressions

operands : {Sign : Type 0} (ts : List (Signed Sign (Expr ℕ))) → map (λ (t : Signed Sign ℕ). t.operand) (map (λ (t : Signed Sign (Expr ℕ)). record { sign = t.sign; operand = size t.operand }) ts) ≡ map (λ (t : Signed Sign (Expr ℕ)). size t.operand) ts
operands [] = refl
operands (t ∷ ts) = λ i. size t.operand ∷ operands ts i

pub size-Negated : (e : Expr ℕ) → size (tree.Negated e) ≡ 2 + size e
unfolding size
size-Negated e = ap size (sym (tree.rolls-Negated e)) ∙ fold-roll-Expr ℕ ℕ size_step (Expr-F.Negated e)

pub size-Sum : (e : Expr ℕ) (ts : List (Signed SumSign (Expr ℕ))) → size (tree.Sum e ts) ≡ 2 + size e + operand_sizes ts
unfolding size
size-Sum e ts =
    ap size (sym (tree.rolls-Sum e ts)) ∙ fold-roll-Expr ℕ ℕ size_step (Expr-F.Sum e ts)
    ∙ ap (λ n. 2 + size e + n) (ap sum (operands ts) ∙ sum-map (λ (t : Signed SumSign (Expr ℕ)). size t.operand) ts)

pub size-Product : (e : Expr ℕ) (ts : List (Signed ProductSign (Expr ℕ))) → size (tree.Product e ts) ≡ 2 + size e + operand_sizes ts
unfolding size
size-Product e ts =
    ap size (sym (tree.rolls-Product e ts)) ∙ fold-roll-Expr ℕ ℕ size_step (Expr-F.Product e ts)
    ∙ ap (λ n. 2 + size e + n) (ap sum (operands ts) ∙ sum-map (λ (t : Signed ProductSign (Expr ℕ)). size t.operand) ts)

pub size-Dot : (e : Expr ℕ) (es : List (Expr ℕ)) → size (tree.Dot e es) ≡ 2 + size e + sizes es
unfolding size
size-Dot e es = ap size (sym (tree.rolls-Dot e es)) ∙ fold-roll-Expr ℕ ℕ size_step (Expr-F.Dot e es) ∙ ap (λ n. 2 + size e + n) (sum-map size es)

pub size-Join : (e : Expr ℕ) (es : List (Expr ℕ)) → size (tree.Join e es) ≡ 2 + size e + sizes es
unfolding size
size-Join e es = ap size (sym (tree.rolls-Join e es)) ∙ fold-roll-Expr ℕ ℕ size_step (Expr-F.Join e es) ∙ ap (λ n. 2 + size e + n) (sum-map size es)

-- ---- conditions

abbrev Tree : Type 0
Tree = Cond ℕ (MarkPattern EdgeMark)

pub condition_size-Not : (c : Tree) → condition_size (conditions.Not c) ≡ 2 + condition_size c
unfolding condition_size
condition_size-Not c = ap condition_size (sym (conditions.rolls-Not c)) ∙ fold-roll-Cond ℕ (MarkPattern EdgeMark) ℕ condition_step (Cond-F.Not c)

pub condition_size-And : (c : Tree) (cs : List Tree) → condition_size (conditions.And c cs) ≡ 2 + condition_size c + condition_sizes cs
unfolding condition_size
condition_size-And c cs =
    ap condition_size (sym (conditions.rolls-And c cs)) ∙ fold-roll-Cond ℕ (MarkPattern EdgeMark) ℕ condition_step (Cond-F.And c cs)
    ∙ ap (λ n. 2 + condition_size c + n) (sum-map condition_size cs)

pub condition_size-Or : (c : Tree) (cs : List Tree) → condition_size (conditions.Or c cs) ≡ 2 + condition_size c + condition_sizes cs
unfolding condition_size
condition_size-Or c cs =
    ap condition_size (sym (conditions.rolls-Or c cs)) ∙ fold-roll-Cond ℕ (MarkPattern EdgeMark) ℕ condition_step (Cond-F.Or c cs)
    ∙ ap (λ n. 2 + condition_size c + n) (sum-map condition_size cs)
