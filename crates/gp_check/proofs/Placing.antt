-- Chains with places in place of names.
use Rattle.std.proofs.Common.{◌≡◌, ℕ, ℤ, zero, suc, true, List, [], ◌∷◌, fold, Option, Some, slice_get, refl, ap, subst, ◌∙◌}
use Rattle.gp_values.specs.declared.marks.EdgeMark.{EdgeMark}
use Rattle.gp_values.specs.Names.{Name}
use Rattle.gp_syntax.specs.declared.expression.Expr.{Expr}
use Rattle.gp_syntax.specs.declared.expression.Cond.{Cond}
use Rattle.std.specs.Borrow.{Bor}
use Rattle.gp_memory.proofs.Basics.{both}
use Rattle.gp_clauses.specs.declared.shape.Shape.{Shape}
use Rattle.gp_clauses.specs.declared.shape.Shape.TheVariants as shapes
use Rattle.gp_clauses.specs.declared.shape.Links.{Links}
use Rattle.gp_clauses.specs.Facts.{is_numeral}
use Rattle.gp_syntax.specs.Expression.{Expression, Number, Negated, Condition, MarkPattern, renamed}
use Rattle.gp_syntax.specs.Fault.{has_no_operation}
use Rattle.gp_syntax.specs.Tree.{expression_of}
use Rattle.gp_clauses.specs.declared.shape.Operation.{Operation}
use Rattle.gp_clauses.specs.declared.shape.Operation.TheVariants as operations
use Rattle.gp_syntax.specs.declared.kinds.VariableType.{VariableType}
use Rattle.gp_syntax.specs.declared.kinds.Comparison.{Comparison}
use Rattle.gp_clauses.specs.declared.condition_shape.ConditionShape.{ConditionShape}
use Rattle.gp_clauses.specs.declared.condition_shape.ConditionShape.TheVariants as conditions
use Rattle.gp_clauses.specs.declared.condition_shape.Connective.{Connective}
use Rattle.gp_clauses.specs.declared.condition_shape.Connective.TheVariants as connectives
use Rattle.gp_clauses.specs.Shapes.{applied, with_operand, chain, expression_in}
use Rattle.gp_clauses.specs.ConditionShapes.{NamedCondition, named_condition, connected, with_part, condition_chain}
use Rattle.gp_check.specs.declared.places.Places.{Places}
use Rattle.gp_check.specs.inside.Placed.{placed_in, placed_condition_in, numeral, IsJoining, IsTest}

renamed_applied : {A B : Type 0} (v n : A → B) (op : Operation) (d e : Expression A) → renamed v n (applied op d e) ≡ applied op (renamed v n d) (renamed v n e)
renamed_applied v n operations.Plus d e = refl
renamed_applied v n operations.Minus d e = refl
renamed_applied v n operations.Times d e = refl
renamed_applied v n operations.Over d e = refl
renamed_applied v n operations.Dot d e = refl
renamed_applied v n operations.Join d e = refl

-- what stands before, and the next operand
abbrev pub with_placed : Places → Expression ℕ → (Operation × Expr Name) → Expression ℕ
with_placed p d l = applied l.0 d (placed_in p (expression_of l.1))

pub placed_chain : (p : Places) (e : Expression Name) (ls : List (Operation × Expr Name)) → placed_in p (chain e ls) ≡ fold (with_placed p) (placed_in p e) ls
placed_chain p e [] = refl
placed_chain p e (l ∷ ls) = placed_chain p (with_operand e l) ls ∙ ap (λ d. fold (with_placed p) d ls) (renamed_applied _ _ l.0 e (expression_of l.1))

-- ---- left labels

pub record IsPlain (l : Operation × Expr Name) : Type 0 where
  pub joining : IsJoining l.0
  pub operand : has_no_operation (expression_of l.1) ≡ true

plain_applied : (op : Operation) (d e : Expression Name) → has_no_operation (applied op d e) ≡ true → (has_no_operation d ≡ true) × IsJoining op × (has_no_operation e ≡ true)
plain_applied operations.Plus d e h = absurd cc
plain_applied operations.Minus d e h = absurd cc
plain_applied operations.Times d e h = absurd cc
plain_applied operations.Over d e h = absurd cc
plain_applied operations.Dot d e h = let p = both (has_no_operation d) (has_no_operation e) h in (p.0, tt, p.1)
plain_applied operations.Join d e h = let p = both (has_no_operation d) (has_no_operation e) h in (p.0, tt, p.1)

pub plain_chain : (e : Expression Name) (ls : List (Operation × Expr Name)) → has_no_operation (chain e ls) ≡ true → (has_no_operation e ≡ true) × ((k : ℕ) (l : Operation × Expr Name) → slice_get ls k ≡ Some l → IsPlain l)
plain_chain e [] h = (h, λ k l at. absurd cc)
plain_chain e (m ∷ ls) h =
    let r = plain_chain (with_operand e m) ls h in
    let p = plain_applied m.0 e (expression_of m.1) r.0 in
    (p.0, each r.1 p.1 p.2)
  where
    each : ((k : ℕ) (l : Operation × Expr Name) → slice_get ls k ≡ Some l → IsPlain l) → IsJoining m.0 → has_no_operation (expression_of m.1) ≡ true → (k : ℕ) (l : Operation × Expr Name) → slice_get (m ∷ ls) k ≡ Some l → IsPlain l
    each rest j o zero l at = let e : m ≡ l = cc in subst IsPlain e (record { joining = j; operand = o })
    each rest j o (suc k) l at = rest k l at

-- ---- numerals

numeral_applied : {P : Type 0} (op : Operation) (d e : Expression Name) → is_numeral (applied op d e) ≡ true → P
numeral_applied operations.Plus d e h = absurd cc
numeral_applied operations.Minus d e h = absurd cc
numeral_applied operations.Times d e h = absurd cc
numeral_applied operations.Over d e h = absurd cc
numeral_applied operations.Dot d e h = absurd cc
numeral_applied operations.Join d e h = absurd cc

-- a numeral as a chain has no further operands
pub numeral_chain : (e : Expression Name) (ls : List (Operation × Expr Name)) → is_numeral (chain e ls) ≡ true → (chain e ls ≡ e) × (is_numeral e ≡ true)
numeral_chain e [] h = (refl, h)
numeral_chain e (l ∷ ls) h = numeral_applied l.0 e (expression_of l.1) (numeral_chain (with_operand e l) ls h).1

pub not_numeral : (s : Shape) → is_numeral (expression_in s) ≡ true → ((z : Bor ℤ) → s ≡ shapes.Number z → ⊥) → ((e : Bor (Expr Name)) (ls : Links) → s ≡ shapes.Chain e ls → ⊥) → ⊥
not_numeral (shapes.Number z) h a b = a z refl
not_numeral (shapes.Text x) h a b = absurd cc
not_numeral (shapes.Variable x) h a b = absurd cc
not_numeral (shapes.InDegree x) h a b = absurd cc
not_numeral (shapes.OutDegree x) h a b = absurd cc
not_numeral (shapes.Length x) h a b = absurd cc
not_numeral shapes.Empty h a b = absurd cc
not_numeral (shapes.Negated e) h a b = absurd cc
not_numeral (shapes.Chain e ls) h a b = b e ls refl

pub numeral_placed : (p : Places) (e : Expression Name) → is_numeral e ≡ true → numeral (Negated e) ≡ placed_in p (Negated e)
numeral_placed p (Number z) h = refl
numeral_placed p other h = absurd cc

pub negated_numeral : (e : Expression Name) → has_no_operation (Negated e) ≡ true → is_numeral e ≡ true
negated_numeral (Number z) h = refl
negated_numeral other h = absurd cc

-- ---- conditions

pub is_test : (s : ConditionShape) → ((c : Bor (Cond Name (Option Name))) → s ≡ conditions.Not c → ⊥) → ((by : Connective) (c : Bor (Cond Name (Option Name))) (ds : Bor (List (Cond Name (Option Name)))) → s ≡ conditions.Chain by c ds → ⊥) → IsTest s
is_test (conditions.HasType w e) n c = tt
is_test (conditions.HasEdge a b) n c = tt
is_test (conditions.HasEdgeWith a b e m) n c = tt
is_test (conditions.Compared op d e) n c = tt
is_test (conditions.Not p) n c = n p refl
is_test (conditions.Chain by p ds) n c = c by p ds refl

pub no_test : (s : ConditionShape) → IsTest s → ((w : VariableType) (e : Bor (Expr Name)) → s ≡ conditions.HasType w e → ⊥) → ((a b : Bor Name) → s ≡ conditions.HasEdge a b → ⊥) →
    ((a b : Bor Name) (e : Bor (Expr Name)) (m : Bor (Option Name)) → s ≡ conditions.HasEdgeWith a b e m → ⊥) → ((op : Comparison) (d e : Bor (Expr Name)) → s ≡ conditions.Compared op d e → ⊥) → ⊥
no_test (conditions.HasType w e) is h f g k = h w e refl
no_test (conditions.HasEdge a b) is h f g k = f a b refl
no_test (conditions.HasEdgeWith a b e m) is h f g k = g a b e m refl
no_test (conditions.Compared op d e) is h f g k = k op d e refl
no_test (conditions.Not p) is h f g k = is
no_test (conditions.Chain by p ds) is h f g k = is

renamed_connected : (p : Places) (by : Connective) (c d : NamedCondition) → placed_condition_in p (connected by c d) ≡ connected by (placed_condition_in p c) (placed_condition_in p d)
renamed_connected p connectives.And c d = refl
renamed_connected p connectives.Or c d = refl

-- what stands before, and the next part
abbrev pub with_placed_part : Places → Connective → Condition ℕ (MarkPattern EdgeMark) → Cond Name (Option Name) → Condition ℕ (MarkPattern EdgeMark)
with_placed_part p by c d = connected by c (placed_condition_in p (named_condition d))

pub placed_condition_chain : (p : Places) (by : Connective) (c : NamedCondition) (ds : List (Cond Name (Option Name))) → placed_condition_in p (condition_chain by c ds) ≡ fold (with_placed_part p by) (placed_condition_in p c) ds
placed_condition_chain p by c [] = refl
placed_condition_chain p by c (d ∷ ds) = placed_condition_chain p by (with_part by c d) ds ∙ ap (λ x. fold (with_placed_part p by) x ds) (renamed_connected p by c (named_condition d))
