-- One layer of a condition.
use Rattle.std.proofs.Common.{◌≡◌, ℕ, zero, suc, ◌+◌, ◌≤◌, List, [], ◌∷◌, map, Option, Some, slice_get, refl, sym, ap, ◌∙◌, arith}
use Rattle.gp_values.specs.Names.{Name}
use Rattle.gp_syntax.specs.declared.expression.Cond.{Cond}
use Rattle.gp_syntax.specs.declared.expression.Cond.TheVariants as tree
use Rattle.gp_syntax.specs.declared.expression.Cond.TheOpen.{Cond-F}
use Rattle.gp_syntax.specs.declared.expression.Cond.TheFolds.{fold-roll-Cond}
use Rattle.gp_syntax.specs.Expression.{And, Or}
use Rattle.gp_syntax.specs.Tree.{ands, ors}
use Rattle.gp_clauses.specs.declared.condition_shape.Connective.TheVariants as connectives
use Rattle.gp_clauses.specs.Size.{condition_step, condition_size, condition_sizes}
use Rattle.gp_clauses.specs.ConditionShapes.{NamedCondition, named_condition, condition_chain}

pub and_chain : (c : NamedCondition) (ds : List (Cond Name (Option Name))) → ands c (map named_condition ds) ≡ condition_chain connectives.And c ds
and_chain c [] = refl
and_chain c (d ∷ ds) = and_chain (And c (named_condition d)) ds

pub or_chain : (c : NamedCondition) (ds : List (Cond Name (Option Name))) → ors c (map named_condition ds) ≡ condition_chain connectives.Or c ds
or_chain c [] = refl
or_chain c (d ∷ ds) = or_chain (Or c (named_condition d)) ds

pub size-Not : (c : Cond Name (Option Name)) → condition_size (tree.Not c) ≡ 1 + condition_size c
unfolding condition_size
size-Not c = ap condition_size (sym (tree.rolls-Not c)) ∙ fold-roll-Cond Name (Option Name) ℕ condition_step (Cond-F.Not c)

pub size-And : (c : Cond Name (Option Name)) (ds : List (Cond Name (Option Name))) → condition_size (tree.And c ds) ≡ 1 + condition_size c + condition_sizes ds
unfolding condition_size
size-And c ds = ap condition_size (sym (tree.rolls-And c ds)) ∙ fold-roll-Cond Name (Option Name) ℕ condition_step (Cond-F.And c ds)

pub size-Or : (c : Cond Name (Option Name)) (ds : List (Cond Name (Option Name))) → condition_size (tree.Or c ds) ≡ 1 + condition_size c + condition_sizes ds
unfolding condition_size
size-Or c ds = ap condition_size (sym (tree.rolls-Or c ds)) ∙ fold-roll-Cond Name (Option Name) ℕ condition_step (Cond-F.Or c ds)

-- a part is no larger than all of them
pub part_within : (ds : List (Cond Name (Option Name))) (k : ℕ) (d : Cond Name (Option Name)) → slice_get ds k ≡ Some d → condition_size d ≤ condition_sizes ds
part_within [] k d h = absurd cc
part_within (c ∷ ds) zero d h = let e : c ≡ d = cc in let s : condition_size c ≡ condition_size d = ap condition_size e in omega arith
part_within (c ∷ ds) (suc k) d h = omega (arith, part_within ds k d h)
