-- Each condition that is read of the tokens of a text is read again.
use Rattle.std.proofs.Common.{ℕ, zero, suc, Option, Some, None}
use Rattle.gp_memory.proofs.Basics.{neither as none_of}
use Rattle.gp_tokens.specs.declared.token.Token.{Token}
use Rattle.gp_values.specs.Names.{Name}
use Rattle.gp_tokens.specs.declared.want.Want.{Want}
use Rattle.gp_tokens.specs.declared.want.Want.TheVariants as wants
use Rattle.gp_tokens.specs.Grammar.{Grammar, One, Made, shape_of}
use Rattle.gp_tokens.specs.Shape.{Is, ◌then◌, second_of}
use Rattle.gp_tokens.specs.Shape as shape
use Rattle.gp_tokens.specs.SignWants.{open_sign, close_sign, comma, equal, less, greater}
use Rattle.gp_syntax.specs.declared.kinds.VariableType.{VariableType}
use Rattle.gp_syntax.specs.declared.kinds.VariableType.TheVariants as types
use Rattle.gp_syntax.specs.declared.kinds.Comparison.{Comparison}
use Rattle.gp_syntax.specs.declared.kinds.Comparison.TheVariants as comparisons
use Rattle.gp_syntax.specs.declared.expression.Cond.TheVariants as c
use Rattle.gp_expressions.specs.declared.ranged.Ranged.{Ranged}
use Rattle.gp_expressions.specs.Ranges.{chained}
use Rattle.gp_expressions.specs.Signs.{not_word, and_word, or_word, edge_word, int_word, char_word, string_word, atom_word, not_equal, less_equal, greater_equal}
use Rattle.gp_expressions.specs.Expressions.{Tree, list, inner}
use Rattle.gp_expressions.specs.Conditions.{CondTree, means, comparison, compared, has_type, joined_by, has_edge, typed, edge_label, edge_test, comparing, plain_test, no_condition, conjunction, disjunction, in_parentheses, denied, negated_in, negation, condition}
use Rattle.gp_fmt.proofs.Parse.Printed.{Anything}
use Rattle.gp_fmt.proofs.Parse.Gives.{Gives, AllOfSome, any_token, then_gives, behind_gives, made_gives, either_gives, absent_gives, separated_gives}
use Rattle.gp_fmt.proofs.Parse.Names.{IsNamed, item, name_gives}
use Rattle.gp_fmt.proofs.Parse.Ranges.{InRange, chained_is}
use Rattle.gp_fmt.proofs.Parse.Parts.{IsGood}
use Rattle.gp_fmt.proofs.Parse.Expressions.{list_gives}
use Rattle.gp_fmt.proofs.Parse.Labels.{between_gives, IsGoodLabel, label_gives}
use Rattle.gp_fmt.proofs.Parse.Tests.{IsTested}
use Rattle.gp_fmt.proofs.Parse.ConditionParts.{IsGoodCondition, good_type, good_edge, good_edge_with, good_compared, good_not, good_and, good_or}

abbrev IsFine : Ranged CondTree → Type 0
IsFine r = InRange IsGoodCondition r

module _ (m : ℕ) where
  typed_gives : (type : VariableType) → IsTested type → Gives (shape_of (typed (list m) type)) IsFine
  unfolding typed
  typed_gives type t = made_gives (has_type type) _ (λ (x : Token × (Ranged Tree × Token)). InRange IsGood x.1.0 × Anything x.1.1) IsFine (λ x h none. good_type type x.1.0.tree t (h.0 none)) (between_gives open_sign close_sign _ (InRange IsGood) (list_gives m))

  behind_type : (word : Want) (type : VariableType) → IsTested type → Gives (shape.Made second_of (Is word then shape_of (typed (list m) type))) IsFine
  behind_type word type t = made_gives second_of _ (λ (x : Token × Ranged CondTree). IsFine x.1) IsFine (λ x h. h) (behind_gives word _ IsFine (typed_gives type t))

  abbrev IsGoodOption : Option (Ranged Tree × Option Name) → Type 0
  IsGoodOption None = Unit {0}
  IsGoodOption (Some l) = IsGoodLabel l

  edge_label_gives : Gives (shape_of (edge_label (list m))) IsGoodOption
  unfolding edge_label
  edge_label_gives =
      either_gives _ _ IsGoodOption
      (made_gives Some _ IsGoodLabel IsGoodOption (λ x h. h) (made_gives second_of _ (λ (x : Token × (Ranged Tree × Option Name)). IsGoodLabel x.1) IsGoodLabel (λ x h. h) (behind_gives comma _ IsGoodLabel (label_gives m))))
      (absent_gives None IsGoodOption tt)

  joined_good : (source target : Name) (l : Option (Ranged Tree × Option Name)) → IsNamed wants.Item source → IsNamed wants.Item target → IsGoodOption l → IsFine (joined_by source target l)
  joined_good source target None hs ht h none = good_edge source target hs ht
  joined_good source target (Some l) hs ht h none = good_edge_with source target l.0.tree l.1 hs ht (h.0 none) h.1

  edge_gives : Gives (shape_of (edge_test (list m))) IsFine
  unfolding edge_test
  edge_gives =
      made_gives has_edge _ (λ x. IsNamed wants.Item x.1.1.0 × (IsNamed wants.Item x.1.1.1.1.0 × (IsGoodOption x.1.1.1.1.1.0 × Anything x.1.1.1.1.1.1))) IsFine (λ x h. joined_good x.1.1.0 x.1.1.1.1.0 x.1.1.1.1.1.0 h.0 h.1.0 h.1.1.0)
      (behind_gives edge_word _ (λ x. IsNamed wants.Item x.1.0 × (IsNamed wants.Item x.1.1.1.0 × (IsGoodOption x.1.1.1.1.0 × Anything x.1.1.1.1.1)))
      (behind_gives open_sign _ (λ x. IsNamed wants.Item x.0 × (IsNamed wants.Item x.1.1.0 × (IsGoodOption x.1.1.1.0 × Anything x.1.1.1.1)))
      (then_gives _ _ (IsNamed wants.Item) (λ x. IsNamed wants.Item x.1.0 × (IsGoodOption x.1.1.0 × Anything x.1.1.1)) (name_gives wants.Item item)
      (behind_gives comma _ (λ x. IsNamed wants.Item x.0 × (IsGoodOption x.1.0 × Anything x.1.1))
      (then_gives _ _ (IsNamed wants.Item) (λ x. IsGoodOption x.0 × Anything x.1) (name_gives wants.Item item)
      (then_gives _ _ IsGoodOption Anything edge_label_gives (any_token close_sign)))))))

  sign_gives : (want : Want) (sign : Comparison) → Gives (shape_of (Made (means sign) (One want))) Anything
  sign_gives want sign = made_gives (means sign) _ Anything Anything (λ x h. tt) (any_token want)

  comparison_gives : Gives (shape_of comparison) Anything
  unfolding comparison
  comparison_gives =
      either_gives _ _ Anything (sign_gives equal comparisons.Equal) (either_gives _ _ Anything (sign_gives not_equal comparisons.NotEqual) (either_gives _ _ Anything (sign_gives less comparisons.Less)
      (either_gives _ _ Anything (sign_gives less_equal comparisons.LessEqual) (either_gives _ _ Anything (sign_gives greater comparisons.Greater) (sign_gives greater_equal comparisons.GreaterEqual)))))

  compared_good : (x : Ranged Tree × (Comparison × Ranged Tree)) → InRange IsGood x.0 × (Anything x.1.0 × InRange IsGood x.1.1) → IsFine (compared x)
  compared_good x h none = let n = none_of x.0.past x.1.1.past none in good_compared x.1.0 x.0.tree x.1.1.tree (h.0 n.0) (h.1.1 n.1)

  comparing_gives : Gives (shape_of (comparing (list m))) IsFine
  unfolding comparing
  comparing_gives =
      made_gives compared _ (λ (x : Ranged Tree × (Comparison × Ranged Tree)). InRange IsGood x.0 × (Anything x.1.0 × InRange IsGood x.1.1)) IsFine compared_good
      (then_gives _ _ (InRange IsGood) (λ (x : Comparison × Ranged Tree). Anything x.0 × InRange IsGood x.1) (list_gives m) (then_gives _ _ Anything (InRange IsGood) comparison_gives (list_gives m)))

  test_gives : Gives (shape_of (plain_test (list m))) IsFine
  unfolding plain_test
  test_gives =
      either_gives _ _ IsFine (behind_type int_word types.Int tt) (either_gives _ _ IsFine (behind_type char_word types.Char tt) (either_gives _ _ IsFine (behind_type string_word types.String tt)
      (either_gives _ _ IsFine (behind_type atom_word types.Atom tt) (either_gives _ _ IsFine edge_gives comparing_gives))))

module _ (g : Grammar (Ranged CondTree)) (h : Gives (shape_of g) IsFine) where
  conjunction_gives : Gives (shape_of (conjunction g)) IsFine
  unfolding conjunction
  conjunction_gives = made_gives (chained no_condition c.And) _ (AllOfSome IsFine) IsFine (chained_is IsGoodCondition no_condition c.And good_and) (separated_gives and_word _ IsFine h)

  disjunction_gives : Gives (shape_of (disjunction g)) IsFine
  unfolding disjunction
  disjunction_gives = made_gives (chained no_condition c.Or) _ (AllOfSome IsFine) IsFine (chained_is IsGoodCondition no_condition c.Or good_or) (separated_gives or_word _ IsFine conjunction_gives)

negation_gives : (m n : ℕ) → Gives (shape_of (negation (list m) n)) IsFine
unfolding negation negated_in in_parentheses
negation_gives m zero = λ ts rest x s h. absurd h
negation_gives m (suc n) =
    let below : Gives (shape_of (negation (list m) n)) IsFine = negation_gives m n in
    either_gives _ _ IsFine (made_gives denied _ (λ (x : Token × Ranged CondTree). IsFine x.1) IsFine (λ x h none. good_not x.1.tree (h none)) (behind_gives not_word _ IsFine below))
    (either_gives _ _ IsFine
    (made_gives inner _ (λ (x : Token × (Ranged CondTree × Token)). IsFine x.1.0 × Anything x.1.1) IsFine (λ x h. h.0) (between_gives open_sign close_sign _ IsFine (disjunction_gives (negation (list m) n) below)))
    (test_gives m))

pub condition_gives : (m n : ℕ) → Gives (shape_of (condition m n)) (InRange IsGoodCondition)
condition_gives m n = disjunction_gives (negation (list m) n) (negation_gives m n)
