-- What one layer of a condition stands for.
use Rattle.std.specs.Prelude.{ℕ, ◌<◌, List, fold, slice_get, ◌≡◌, Option, Some}
use Rattle.gp_values.specs.Names.{Name}
use Rattle.gp_syntax.specs.declared.expression.Cond.{Cond}
use Rattle.gp_syntax.specs.Expression.{Condition, HasType, HasEdge, HasEdgeWith, Compared, Not, And, Or}
use Rattle.gp_syntax.specs.Tree.{expression_of, condition_of}
use Rattle.gp_clauses.specs.declared.condition_shape.Connective.{Connective}
use Rattle.gp_clauses.specs.declared.condition_shape.Connective.TheVariants as connectives
use Rattle.gp_clauses.specs.declared.condition_shape.ConditionShape.{ConditionShape}
use Rattle.gp_clauses.specs.declared.condition_shape.ConditionShape.TheVariants as shapes
use Rattle.gp_clauses.specs.Size.{condition_size}

abbrev pub NamedCondition : Type 0
NamedCondition = Condition Name (Option Name)

abbrev pub named_condition : Cond Name (Option Name) → NamedCondition
named_condition c = condition_of (λ m. m) c

abbrev pub connected : {Ref Mark : Type 0} → Connective → Condition Ref Mark → Condition Ref Mark → Condition Ref Mark
connected connectives.And c d = And c d
connected connectives.Or c d = Or c d

abbrev pub with_part : Connective → NamedCondition → Cond Name (Option Name) → NamedCondition
with_part by c d = connected by c (named_condition d)

abbrev pub condition_chain : Connective → NamedCondition → List (Cond Name (Option Name)) → NamedCondition
condition_chain by c ds = fold (with_part by) c ds

abbrev pub condition_in : ConditionShape → NamedCondition
condition_in (shapes.HasType wanted e) = HasType wanted (expression_of e.now)
condition_in (shapes.HasEdge a b) = HasEdge a.now b.now
condition_in (shapes.HasEdgeWith a b e mark) = HasEdgeWith a.now b.now (expression_of e.now) mark.now
condition_in (shapes.Compared op d e) = Compared op (expression_of d.now) (expression_of e.now)
condition_in (shapes.Not c) = Not (named_condition c.now)
condition_in (shapes.Chain by c ds) = condition_chain by (named_condition c.now) ds.now

-- the parts are smaller than this
abbrev pub IsSmallerCondition : ConditionShape → ℕ → Type 0
IsSmallerCondition (shapes.Not c) n = condition_size c.now < n
IsSmallerCondition (shapes.Chain by c ds) n = (condition_size c.now < n) × ((k : ℕ) (d : Cond Name (Option Name)) → slice_get ds.now k ≡ Some d → condition_size d < n)
IsSmallerCondition other n = Unit {0}
