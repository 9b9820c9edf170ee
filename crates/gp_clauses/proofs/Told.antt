-- What the clauses ask of an expression, operation by operation.
use Rattle.std.proofs.Common.{◌≡◌, ℕ, ◌+◌, ◌≤◌, List, [], ◌∷◌, fold, refl, ap, ◌∙◌, arith}
use Rattle.std.specs.Prelude.{nat_le}
use Rattle.std.proofs.lemmas.Bool.Decides.{nat_tests}
use Rattle.gp_values.specs.Names.{Name}
use Rattle.gp_syntax.specs.declared.kinds.VariableType.{VariableType}
use Rattle.gp_syntax.specs.declared.expression.Expr.{Expr}
use Rattle.gp_syntax.specs.Expression.{Expression, Number, Text, Variable, In_degree, Out_degree, Length_of, Negated, Plus, Minus, Times, Over, Dot, Empty, Join}
use Rattle.gp_syntax.specs.Simple.{strings_in, all_lists_in}
use Rattle.gp_syntax.specs.Fault.{has_no_operation}
use Rattle.gp_syntax.specs.Tree.{expression_of}
use Rattle.gp_clauses.specs.declared.shape.Operation.{Operation}
use Rattle.gp_clauses.specs.declared.shape.Operation.TheVariants as operations
use Rattle.gp_clauses.specs.declared.facts.Facts.{Facts}
use Rattle.gp_clauses.specs.Shapes.{applied, with_operand, chain}
use Rattle.gp_clauses.specs.Facts.{few, is_numeral, facts_of, negated, dotted, joined, combined}

pub few_small : (n : ℕ) → few n ≤ 2
few_small n = grind (arith, nat_tests)

few_sum : (a b : ℕ) → few (a + b) ≡ few (few a + few b)
few_sum a b = grind (arith, nat_tests)

at_most_one : (a b : ℕ) → nat_le (a + b) 1 ≡ nat_le (few a + few b) 1
at_most_one a b = grind (arith, nat_tests)

plain-Negated : {Ref : Type 0} (e : Expression Ref) → has_no_operation (Negated e) ≡ is_numeral e
plain-Negated (Number z) = refl
plain-Negated (Text s) = refl
plain-Negated (Variable x) = refl
plain-Negated (In_degree n) = refl
plain-Negated (Out_degree n) = refl
plain-Negated (Length_of x) = refl
plain-Negated (Negated e) = refl
plain-Negated (Plus d e) = refl
plain-Negated (Minus d e) = refl
plain-Negated (Times d e) = refl
plain-Negated (Over d e) = refl
plain-Negated (Dot d e) = refl
plain-Negated Empty = refl
plain-Negated (Join d e) = refl

pub facts-Negated : {Ref : Type 0} (t : Ref → VariableType) (e : Expression Ref) → facts_of t (Negated e) ≡ negated (facts_of t e)
facts-Negated t e = λ i. record (negated (facts_of t e)) { is_plain = plain-Negated e i }

pub facts_applied : {Ref : Type 0} (t : Ref → VariableType) (op : Operation) (d e : Expression Ref) → facts_of t (applied op d e) ≡ combined op (facts_of t d) (facts_of t e)
facts_applied t operations.Plus d e = refl
facts_applied t operations.Minus d e = refl
facts_applied t operations.Times d e = refl
facts_applied t operations.Over d e = refl
facts_applied t operations.Dot d e =
    λ i. record (dotted (facts_of t d) (facts_of t e)) { lists = few_sum (all_lists_in t d) (all_lists_in t e) i; strings = few_sum (strings_in t d) (strings_in t e) i; has_one_string = at_most_one (strings_in t d) (strings_in t e) i }
facts_applied t operations.Join d e = λ i. record (joined (facts_of t d) (facts_of t e)) { lists = few_sum (all_lists_in t d) (all_lists_in t e) i }

-- the facts of what stands before, and of the next operand
abbrev pub with_facts : (Name → VariableType) → Facts → (Operation × Expr Name) → Facts
with_facts t f l = combined l.0 f (facts_of t (expression_of l.1))

pub facts_chain : (t : Name → VariableType) (e : Expression Name) (ls : List (Operation × Expr Name)) → facts_of t (chain e ls) ≡ fold (with_facts t) (facts_of t e) ls
facts_chain t e [] = refl
facts_chain t e (l ∷ ls) = facts_chain t (with_operand e l) ls ∙ ap (λ f. fold (with_facts t) f ls) (facts_applied t l.0 e (expression_of l.1))

-- counts stay small
pub record AreSmall (f : Facts) : Type 0 where
  pub lists : f.lists ≤ 2
  pub strings : f.strings ≤ 2

pub small_facts : {Ref : Type 0} (t : Ref → VariableType) (e : Expression Ref) → AreSmall (facts_of t e)
small_facts t e = record { lists = few_small (all_lists_in t e); strings = few_small (strings_in t e) }

pub small_combined : (op : Operation) (f g : Facts) → AreSmall (combined op f g)
small_combined operations.Plus f g = record { lists = omega arith; strings = omega arith }
small_combined operations.Minus f g = record { lists = omega arith; strings = omega arith }
small_combined operations.Times f g = record { lists = omega arith; strings = omega arith }
small_combined operations.Over f g = record { lists = omega arith; strings = omega arith }
small_combined operations.Dot f g = record { lists = few_small (f.lists + g.lists); strings = few_small (f.strings + g.strings) }
small_combined operations.Join f g = record { lists = few_small (f.lists + g.lists); strings = omega arith }
