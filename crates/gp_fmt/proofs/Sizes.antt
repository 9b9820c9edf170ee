-- The sizes of the forms of trees.
use Rattle.std.proofs.Common.{◌≡◌, ℕ, zero, suc, ◌+◌, ◌<◌, ◌≤◌, List, [], ◌∷◌, map, Option, length, get_or, refl, sym, ap, ◌∙◌, arith}
use Rattle.gp_values.specs.Names.{Name}
use Rattle.gp_syntax.specs.declared.expression.Signed.{Signed}
use Rattle.gp_syntax.specs.declared.expression.SumSign.{SumSign}
use Rattle.gp_syntax.specs.declared.expression.ProductSign.{ProductSign}
use Rattle.gp_syntax.specs.declared.expression.Expr.{Expr}
use Rattle.gp_syntax.specs.declared.expression.Expr.TheVariants as tree
use Rattle.gp_syntax.specs.declared.expression.Expr.TheOpen.{Expr-F}
use Rattle.gp_syntax.specs.declared.expression.Expr.TheFolds.{fold-roll-Expr}
use Rattle.gp_syntax.specs.declared.expression.Cond.{Cond}
use Rattle.gp_syntax.specs.declared.expression.Cond.TheVariants as conditions
use Rattle.gp_syntax.specs.declared.expression.Cond.TheOpen.{Cond-F}
use Rattle.gp_syntax.specs.declared.expression.Cond.TheFolds.{fold-roll-Cond}
use Rattle.gp_syntax.specs.declared.tree.CommandTree.{CommandTree}
use Rattle.gp_syntax.specs.declared.tree.CommandTree.TheVariants as commands
use Rattle.gp_syntax.specs.declared.tree.CommandTree.TheOpen.{CommandTree-F}
use Rattle.gp_syntax.specs.declared.tree.CommandTree.TheFolds.{fold-roll-CommandTree}
use Rattle.gp_syntax.specs.declared.tree.Decl.{Decl}
use Rattle.gp_syntax.specs.declared.tree.Decl.TheVariants as declarations
use Rattle.gp_syntax.specs.declared.tree.Decl.TheOpen.{Decl-F}
use Rattle.gp_syntax.specs.declared.tree.Decl.TheFolds.{fold-roll-Decl}
use Rattle.gp_fmt.specs.inside.Sizes.{total, expression_size, expression_size_step, expression_sizes, operand_sizes, condition_size, condition_size_step, condition_sizes, command_size, command_size_step, command_sizes, declaration_size, declaration_size_step, declaration_sizes}

-- each of a list is no larger than all of them
pub size_within : {A : Type 0} (f : A → ℕ) (xs : List A) (i : ℕ) (x : A) → i < length xs → x ≡ get_or xs i x → f x ≤ total (map f xs)
size_within f [] i x lt e = absurd (omega (arith, lt))
size_within f (y ∷ xs) zero x lt e = let h : f x ≡ f y = ap f e in omega (arith, h)
size_within f (y ∷ xs) (suc i) x lt e = let h = size_within f xs i x (omega (arith, lt)) e in omega (arith, h)

twice : {Sign : Type 0} (ts : List (Signed Sign (Expr Name))) → map (λ (t : Signed Sign ℕ). t.operand) (map (λ (t : Signed Sign (Expr Name)). record { sign = t.sign; operand = expression_size t.operand }) ts) ≡ map (λ (t : Signed Sign (Expr Name)). expression_size t.operand) ts
twice [] = refl
twice (t ∷ ts) = λ i. expression_size t.operand ∷ twice ts i

pub expression_size-Negated : (e : Expr Name) → expression_size (tree.Negated e) ≡ 1 + expression_size e
unfolding expression_size
expression_size-Negated e = ap expression_size (sym (tree.rolls-Negated e)) ∙ fold-roll-Expr Name ℕ expression_size_step (Expr-F.Negated e)

pub expression_size-Sum : (e : Expr Name) (ts : List (Signed SumSign (Expr Name))) → expression_size (tree.Sum e ts) ≡ 1 + expression_size e + operand_sizes ts
unfolding expression_size
expression_size-Sum e ts = ap expression_size (sym (tree.rolls-Sum e ts)) ∙ fold-roll-Expr Name ℕ expression_size_step (Expr-F.Sum e ts) ∙ ap (λ n. 1 + expression_size e + total n) (twice ts)

pub expression_size-Product : (e : Expr Name) (ts : List (Signed ProductSign (Expr Name))) → expression_size (tree.Product e ts) ≡ 1 + expression_size e + operand_sizes ts
unfolding expression_size
expression_size-Product e ts = ap expression_size (sym (tree.rolls-Product e ts)) ∙ fold-roll-Expr Name ℕ expression_size_step (Expr-F.Product e ts) ∙ ap (λ n. 1 + expression_size e + total n) (twice ts)

pub expression_size-Dot : (e : Expr Name) (ts : List (Expr Name)) → expression_size (tree.Dot e ts) ≡ 1 + expression_size e + expression_sizes ts
unfolding expression_size
expression_size-Dot e ts = ap expression_size (sym (tree.rolls-Dot e ts)) ∙ fold-roll-Expr Name ℕ expression_size_step (Expr-F.Dot e ts)

pub expression_size-Join : (e : Expr Name) (ts : List (Expr Name)) → expression_size (tree.Join e ts) ≡ 1 + expression_size e + expression_sizes ts
unfolding expression_size
expression_size-Join e ts = ap expression_size (sym (tree.rolls-Join e ts)) ∙ fold-roll-Expr Name ℕ expression_size_step (Expr-F.Join e ts)

pub condition_size-Not : (c : Cond Name (Option Name)) → condition_size (conditions.Not c) ≡ 1 + condition_size c
unfolding condition_size
condition_size-Not c = ap condition_size (sym (conditions.rolls-Not c)) ∙ fold-roll-Cond Name (Option Name) ℕ condition_size_step (Cond-F.Not c)

pub condition_size-And : (c : Cond Name (Option Name)) (cs : List (Cond Name (Option Name))) → condition_size (conditions.And c cs) ≡ 1 + condition_size c + condition_sizes cs
unfolding condition_size
condition_size-And c cs = ap condition_size (sym (conditions.rolls-And c cs)) ∙ fold-roll-Cond Name (Option Name) ℕ condition_size_step (Cond-F.And c cs)

pub condition_size-Or : (c : Cond Name (Option Name)) (cs : List (Cond Name (Option Name))) → condition_size (conditions.Or c cs) ≡ 1 + condition_size c + condition_sizes cs
unfolding condition_size
condition_size-Or c cs = ap condition_size (sym (conditions.rolls-Or c cs)) ∙ fold-roll-Cond Name (Option Name) ℕ condition_size_step (Cond-F.Or c cs)

pub command_size-Seq : (x : CommandTree) (xs : List CommandTree) → command_size (commands.Seq x xs) ≡ 1 + command_size x + command_sizes xs
unfolding command_size
command_size-Seq x xs = ap command_size (sym (commands.rolls-Seq x xs)) ∙ fold-roll-CommandTree ℕ command_size_step (CommandTree-F.Seq x xs)

pub command_size-Or : (x : CommandTree) (xs : List CommandTree) → command_size (commands.Or x xs) ≡ 1 + command_size x + command_sizes xs
unfolding command_size
command_size-Or x xs = ap command_size (sym (commands.rolls-Or x xs)) ∙ fold-roll-CommandTree ℕ command_size_step (CommandTree-F.Or x xs)

pub command_size-If : (c : CommandTree) (x : CommandTree) (y : CommandTree) → command_size (commands.If c x y) ≡ 1 + command_size c + command_size x + command_size y
unfolding command_size
command_size-If c x y = ap command_size (sym (commands.rolls-If c x y)) ∙ fold-roll-CommandTree ℕ command_size_step (CommandTree-F.If c x y)

pub command_size-Try : (c : CommandTree) (x : CommandTree) (y : CommandTree) → command_size (commands.Try c x y) ≡ 1 + command_size c + command_size x + command_size y
unfolding command_size
command_size-Try c x y = ap command_size (sym (commands.rolls-Try c x y)) ∙ fold-roll-CommandTree ℕ command_size_step (CommandTree-F.Try c x y)

pub command_size-Loop : (x : CommandTree) → command_size (commands.Loop x) ≡ 1 + command_size x
unfolding command_size
command_size-Loop x = ap command_size (sym (commands.rolls-Loop x)) ∙ fold-roll-CommandTree ℕ command_size_step (CommandTree-F.Loop x)

pub declaration_size-Procedure : (n : Name) (ds : List Decl) (body : CommandTree) → declaration_size (declarations.Procedure n ds body) ≡ 1 + declaration_sizes ds
unfolding declaration_size
declaration_size-Procedure n ds body = ap declaration_size (sym (declarations.rolls-Procedure n ds body)) ∙ fold-roll-Decl ℕ declaration_size_step (Decl-F.Procedure n ds body)
