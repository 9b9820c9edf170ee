-- Tests of conditions are read again.
use Rattle.std.proofs.Common.{◌≡◌, ℕ, true, List, [], ◌∷◌, ◌++◌, Option, Some, None, refl, ap}
use Rattle.gp_tokens.specs.declared.keyword.Keyword.{Keyword}
use Rattle.gp_tokens.specs.declared.keyword.Keyword.TheVariants as words
use Rattle.gp_tokens.specs.declared.token.Kind.TheVariants as k
use Rattle.gp_tokens.specs.declared.token.Token.{Token}
use Rattle.gp_tokens.specs.Kinds.{same_kind}
use Rattle.gp_values.specs.Names.{Name}
use Rattle.gp_tokens.specs.declared.want.Want.TheVariants as wants
use Rattle.gp_tokens.specs.Wants.{meets}
use Rattle.gp_tokens.specs.Grammar.{shape_of}
use Rattle.gp_tokens.specs.Shape.{Is, ◌then◌, Made, second_of}
use Rattle.gp_tokens.specs.SignWants.{open_sign, close_sign, comma, equal, less, greater}
use Rattle.gp_syntax.specs.declared.kinds.VariableType.{VariableType}
use Rattle.gp_syntax.specs.declared.kinds.VariableType.TheVariants as types
use Rattle.gp_syntax.specs.declared.kinds.Comparison.{Comparison}
use Rattle.gp_syntax.specs.declared.kinds.Comparison.TheVariants as comparisons
use Rattle.gp_syntax.specs.declared.expression.Cond.TheVariants as c
use Rattle.gp_expressions.specs.declared.ranged.Ranged.{Ranged}
use Rattle.gp_expressions.specs.Ranges.{whole, with}
use Rattle.gp_expressions.specs.Signs.{edge_word, not_equal, less_equal, greater_equal}
use Rattle.gp_expressions.specs.Expressions.{Tree, list}
use Rattle.gp_expressions.specs.Conditions.{CondTree, label, means, comparison, compared, has_type, joined_by, has_edge, typed, edge_label, comparing, plain_test}
use Rattle.gp_expressions.specs.Conditions as grammar
use Rattle.gp_fmt.specs.declared.piece.Piece.{Piece}
use Rattle.gp_fmt.specs.declared.piece.Piece.TheVariants as p
use Rattle.gp_fmt.specs.Expressions.{Part, in_parentheses, expression, type_word, comparison_sign, edge_test, test}
use Rattle.gp_fmt.specs.Expressions as printed
use Rattle.gp_fmt.specs.inside.Spelled.{IsWellSpelled}
use Rattle.gp_fmt.proofs.Parse.Printed.{token_at, Reads, Anything, some, made_into, made_reads, one_reads, other_reads, absent_reads, then_reads, then_takes, behind_takes, sign_takes}
use Rattle.gp_fmt.proofs.Parse.Names.{IsNamed, name_reads}
use Rattle.gp_fmt.proofs.Parse.Labels.{enclosed_takes}
use Rattle.gp_fmt.proofs.Parse.Spelling.{equal_well, not_equal_well, less_well, less_equal_well, greater_well, greater_equal_well}

-- ---- types

-- the types that a condition tests
abbrev pub IsTested : VariableType → Type 0
IsTested types.Int = Unit {0}
IsTested types.Char = Unit {0}
IsTested types.String = Unit {0}
IsTested types.Atom = Unit {0}
IsTested types.List = ⊥

module _ (m : ℕ) (d : Tree) (r : Reads (expression d) (shape_of (list m)) (whole d)) where
  typed_reads : (type : VariableType) → Reads (in_parentheses (expression d)) (shape_of (typed (list m) type)) (whole (c.HasType type d))
  unfolding typed
  typed_reads type = made_into _ (has_type type) _ (λ (x : Token × (Ranged Tree × Token)). (x.1.0 ≡ whole d) × Anything x.1.1) _ (λ x j. ap (λ (r : Ranged Tree). with (c.HasType type) r) j.0) (enclosed_takes (expression d) _ (whole d) r)

  behind_type : (word : Keyword) (type : VariableType) → ((start : ℕ) → meets (wants.Keyword word) (token_at (p.Word word) start) ≡ true)
      → Reads (p.Word word ∷ in_parentheses (expression d)) (Made second_of (Is (wants.Keyword word) then shape_of (typed (list m) type))) (whole (c.HasType type d))
  behind_type word type met =
      made_into _ second_of _ (λ (x : Token × Ranged CondTree). x.1 ≡ whole (c.HasType type d)) _ (λ x j. j)
      (behind_takes (p.Word word) (in_parentheses (expression d)) (wants.Keyword word) _ (λ x. x ≡ whole (c.HasType type d)) met (some _ _ _ (typed_reads type)))

  pub type_reads : (type : VariableType) → IsTested type → Reads (type_word type ∷ in_parentheses (expression d)) (shape_of (plain_test (list m))) (whole (c.HasType type d))
  unfolding plain_test meets same_kind
  type_reads types.Int h = one_reads _ _ _ _ (behind_type words.Int types.Int (λ start. refl))
  type_reads types.Char h = other_reads _ _ _ _ (one_reads _ _ _ _ (behind_type words.Char types.Char (λ start. refl)))
  type_reads types.String h = other_reads _ _ _ _ (other_reads _ _ _ _ (one_reads _ _ _ _ (behind_type words.String types.String (λ start. refl))))
  type_reads types.Atom h = other_reads _ _ _ _ (other_reads _ _ _ _ (other_reads _ _ _ _ (one_reads _ _ _ _ (behind_type words.Atom types.Atom (λ start. refl)))))
  type_reads types.List h = absurd h

pub type_well : (type : VariableType) → IsWellSpelled (type_word type)
type_well types.Int = tt
type_well types.Char = tt
type_well types.String = tt
type_well types.Atom = tt
type_well types.List = tt

-- ---- edges

pub no_label_reads : (m : ℕ) → Reads [] (shape_of (edge_label (list m))) None
unfolding edge_label
no_label_reads m = other_reads _ _ _ _ (absent_reads None)

pub some_label_reads : (m : ℕ) (d : Tree) (w : Option Name) → Reads (printed.label d w) (shape_of (label (list m))) (whole d, w) → Reads (p.Sign k.Comma ∷ printed.label d w) (shape_of (edge_label (list m))) (Some (whole d, w))
unfolding edge_label meets same_kind
some_label_reads m d w r =
    one_reads _ _ _ _ (made_reads _ Some _ (whole d, w) (made_into _ second_of _ (λ (x : Token × (Ranged Tree × Option Name)). x.1 ≡ (whole d, w)) (whole d, w) (λ x j. j)
    (behind_takes (p.Sign k.Comma) (printed.label d w) comma _ (λ (x : Ranged Tree × Option Name). x ≡ (whole d, w)) (λ start. refl) (some _ _ _ r))))

pub edge_reads : (m : ℕ) (source target : Name) (behind : List Piece) (l : Option (Ranged Tree × Option Name)) → IsNamed wants.Item source → IsNamed wants.Item target → Reads behind (shape_of (edge_label (list m))) l
    → Reads (edge_test source target behind).pieces (shape_of (plain_test (list m))) (joined_by source target l)
unfolding plain_test grammar.edge_test meets same_kind
edge_reads m source target behind l hs ht r =
    other_reads _ _ _ _ (other_reads _ _ _ _ (other_reads _ _ _ _ (other_reads _ _ _ _ (one_reads _ _ _ _
    (made_into _ has_edge _ (λ x. (x.1.1.0 ≡ source) × ((x.1.1.1.1.0 ≡ target) × ((x.1.1.1.1.1.0 ≡ l) × Anything x.1.1.1.1.1.1))) (joined_by source target l) (λ x j i. joined_by (j.0 i) (j.1.0 i) (j.1.1.0 i))
    (behind_takes (p.Word words.Edge) (in_parentheses (p.Name source ∷ p.Sign k.Comma ∷ p.Name target ∷ behind)) edge_word _ (λ x. (x.1.0 ≡ source) × ((x.1.1.1.0 ≡ target) × ((x.1.1.1.1.0 ≡ l) × Anything x.1.1.1.1.1))) (λ start. refl)
    (behind_takes (p.Sign k.OpenParenthesis) (p.Name source ∷ p.Sign k.Comma ∷ p.Name target ∷ behind ++ p.Sign k.CloseParenthesis ∷ []) open_sign _ (λ x. (x.0 ≡ source) × ((x.1.1.0 ≡ target) × ((x.1.1.1.0 ≡ l) × Anything x.1.1.1.1))) (λ start. refl)
    (then_takes (p.Name source ∷ []) (p.Sign k.Comma ∷ p.Name target ∷ behind ++ p.Sign k.CloseParenthesis ∷ []) _ _ (λ x. x ≡ source) (λ x. (x.1.0 ≡ target) × ((x.1.1.0 ≡ l) × Anything x.1.1.1)) (some _ _ source (name_reads wants.Item source hs))
    (behind_takes (p.Sign k.Comma) (p.Name target ∷ behind ++ p.Sign k.CloseParenthesis ∷ []) comma _ (λ x. (x.0 ≡ target) × ((x.1.0 ≡ l) × Anything x.1.1)) (λ start. refl)
    (then_takes (p.Name target ∷ []) (behind ++ p.Sign k.CloseParenthesis ∷ []) _ _ (λ x. x ≡ target) (λ x. (x.0 ≡ l) × Anything x.1) (some _ _ target (name_reads wants.Item target ht))
    (then_takes behind (p.Sign k.CloseParenthesis ∷ []) _ _ (λ x. x ≡ l) Anything (some _ _ l r) (sign_takes (p.Sign k.CloseParenthesis) close_sign (λ start. refl)))))))))))))

-- ---- comparisons

comparison_reads : (sign : Comparison) → Reads (comparison_sign sign ∷ []) (shape_of comparison) sign
unfolding comparison meets same_kind
comparison_reads comparisons.Equal = one_reads _ _ _ _ (made_into _ (means comparisons.Equal) _ Anything _ (λ x _. refl) (sign_takes (p.Sign k.Equal) equal (λ start. refl)))
comparison_reads comparisons.NotEqual = other_reads _ _ _ _ (one_reads _ _ _ _ (made_into _ (means comparisons.NotEqual) _ Anything _ (λ x _. refl) (sign_takes (p.Sign k.NotEqual) not_equal (λ start. refl))))
comparison_reads comparisons.Less = other_reads _ _ _ _ (other_reads _ _ _ _ (one_reads _ _ _ _ (made_into _ (means comparisons.Less) _ Anything _ (λ x _. refl) (sign_takes (p.Sign k.Less) less (λ start. refl)))))
comparison_reads comparisons.LessEqual =
    other_reads _ _ _ _ (other_reads _ _ _ _ (other_reads _ _ _ _ (one_reads _ _ _ _ (made_into _ (means comparisons.LessEqual) _ Anything _ (λ x _. refl) (sign_takes (p.Sign k.LessEqual) less_equal (λ start. refl))))))
comparison_reads comparisons.Greater =
    other_reads _ _ _ _ (other_reads _ _ _ _ (other_reads _ _ _ _ (other_reads _ _ _ _ (one_reads _ _ _ _ (made_into _ (means comparisons.Greater) _ Anything _ (λ x _. refl) (sign_takes (p.Sign k.Greater) greater (λ start. refl)))))))
comparison_reads comparisons.GreaterEqual =
    other_reads _ _ _ _ (other_reads _ _ _ _ (other_reads _ _ _ _ (other_reads _ _ _ _ (other_reads _ _ _ _ (made_into _ (means comparisons.GreaterEqual) _ Anything _ (λ x _. refl) (sign_takes (p.Sign k.GreaterEqual) greater_equal (λ start. refl)))))))

pub comparison_well : (sign : Comparison) → IsWellSpelled (comparison_sign sign)
comparison_well comparisons.Equal = equal_well
comparison_well comparisons.NotEqual = not_equal_well
comparison_well comparisons.Less = less_well
comparison_well comparisons.LessEqual = less_equal_well
comparison_well comparisons.Greater = greater_well
comparison_well comparisons.GreaterEqual = greater_equal_well

pub compared_reads : (m : ℕ) (sign : Comparison) (d e : Tree) → Reads (expression d) (shape_of (list m)) (whole d) → Reads (expression e) (shape_of (list m)) (whole e)
    → Reads (expression d ++ comparison_sign sign ∷ expression e) (shape_of (plain_test (list m))) (whole (c.Compared sign d e))
unfolding plain_test comparing
compared_reads m sign d e r s =
    other_reads _ _ _ _ (other_reads _ _ _ _ (other_reads _ _ _ _ (other_reads _ _ _ _ (other_reads _ _ _ _ (made_reads _ compared _ (whole d, (sign, whole e))
    (then_reads (expression d) (comparison_sign sign ∷ expression e) _ _ (whole d) (sign, whole e) r
    (then_reads (comparison_sign sign ∷ []) (expression e) _ _ sign (whole e) (comparison_reads sign) s)))))))
