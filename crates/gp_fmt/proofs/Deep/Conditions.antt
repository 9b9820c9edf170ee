-- Labels and conditions, nested no deeper than their texts.
use Rattle.std.proofs.Common.{◌≡◌, ℕ, zero, suc, ◌≤◌, true, false, List, [], ◌∷◌, ◌++◌, map, Option, Some, None, refl, sym, ◌∙◌, ap, ap₂, subst, arith}
use Rattle.gp_memory.proofs.Basics.{maps_twice}
use Rattle.gp_tokens.specs.declared.token.Token.{Token}
use Rattle.gp_tokens.specs.declared.token.Kind.TheVariants as k
use Rattle.gp_tokens.specs.declared.keyword.Keyword.TheVariants as words
use Rattle.gp_values.specs.Names.{Name}
use Rattle.gp_tokens.specs.declared.want.Want.{Want}
use Rattle.gp_tokens.specs.declared.want.Want.TheVariants as wants
use Rattle.gp_tokens.specs.Grammar.{Grammar, shape_of}
use Rattle.gp_tokens.specs.Fits.{AllExcluded}
use Rattle.gp_tokens.specs.Shape.{Shape, Is, ◌then◌, Made, second_of}
use Rattle.gp_tokens.specs.SignWants.{comma, hash, equal, less, greater}
use Rattle.gp_syntax.specs.declared.kinds.VariableType.{VariableType}
use Rattle.gp_syntax.specs.declared.kinds.VariableType.TheVariants as types
use Rattle.gp_syntax.specs.declared.kinds.Comparison.{Comparison}
use Rattle.gp_syntax.specs.declared.kinds.Comparison.TheVariants as comparisons
use Rattle.gp_syntax.specs.declared.expression.Cond.TheVariants as c
use Rattle.gp_expressions.specs.declared.ranged.Ranged.{Ranged}
use Rattle.gp_expressions.specs.Ranges.{chained}
use Rattle.gp_expressions.specs.Signs.{not_word, and_word, or_word, edge_word, int_word, char_word, string_word, atom_word, not_equal, less_equal, greater_equal}
use Rattle.gp_expressions.specs.Expressions.{Tree, list}
use Rattle.gp_expressions.specs.Conditions.{CondTree, word_of, mark, label, means, comparison, compared, joined_by, has_edge, typed, edge_label, edge_test, comparing, plain_test, no_condition, conjunction, disjunction, in_parentheses, negated_in, negation, condition}
use Rattle.gp_program.specs.declared.depth.Role.{Role}
use Rattle.gp_program.specs.declared.depth.Role.TheVariants as role
use Rattle.gp_fmt.specs.declared.piece.Piece.{Piece}
use Rattle.gp_fmt.specs.declared.piece.Piece.TheVariants as p
use Rattle.gp_fmt.specs.Expressions.{Part, chain, expression, mark as mark_pieces, label as label_pieces, type_word, comparison_sign, part_of_condition, condition as condition_pieces}
use Rattle.gp_fmt.proofs.Deep.Roles.{piece_role, roles, roles_append, name_role, loud}
use Rattle.gp_fmt.proofs.Deep.Quiet.{quiet_hash, quiet_comma, quiet_item, quiet_equal, quiet_not_equal, quiet_less, quiet_less_equal, quiet_greater, quiet_greater_equal, quiet_int, quiet_char, quiet_string, quiet_atom, quiet_edge, quiet_and, quiet_or}
use Rattle.gp_fmt.proofs.Deep.Texts.{then_deeper, recast, wrap, Covers, other_covers, opening_covers, closing_covers, not_covers, name_covers, word_covers, then_covers, made_covers, seen_covers, either_covers, absent_covers, raised_covers, sign_covers}
use Rattle.gp_fmt.proofs.Forms.{of-HasType, of-HasEdge, of-HasEdgeWith, of-Compared, of-Not, of-And, of-Or}
use Rattle.gp_fmt.proofs.Deep.Parts.{tree_of, IsParted, Parts, roles_if, operand_deeper, tight, bracketed, either_parts, chain_parts}
use Rattle.gp_fmt.proofs.Deep.Expressions.{expression_roles, list_covers, chain_roles}

-- ---- labels

pub mark_covers : Covers false 0 0 (shape_of mark) (λ m. roles (mark_pieces m))
unfolding mark
mark_covers = either_covers (made_covers word_of _ (λ x. refl) (then_covers (other_covers hash 0 quiet_hash) word_covers)) (absent_covers 0 None _ refl)

module _ (lists : Grammar (Ranged Tree)) (g : Covers true 0 0 (shape_of lists) (λ (x : Ranged Tree). expression_roles x.tree)) where
  pub label_covers : Covers false 0 0 (shape_of (label lists)) (λ (x : Ranged Tree × Option Name). roles (label_pieces x.0.tree x.1))
  unfolding label
  label_covers = seen_covers _ (λ x. sym (roles_append (expression x.0.tree) (mark_pieces x.1))) (then_covers g mark_covers)

-- ---- tests

abbrev pub condition_level : CondTree → ℕ
condition_level x = (part_of_condition x).level

abbrev pub condition_roles : CondTree → List Role
condition_roles x = roles (condition_pieces x)

abbrev condition_parts : ℕ → Shape (Ranged CondTree) → Type 0
condition_parts l R = Parts l (λ (x : Ranged CondTree). condition_level x.tree) (λ (x : Ranged CondTree). condition_roles x.tree) R

test_parts : {A : Type 0} {R : Shape A} {v : A → List Role} (f : A → Ranged CondTree) → ((y : A) → v y ≡ condition_roles (f y).tree) → ((y : A) → condition_level (f y).tree ≡ 3) → Covers true 0 0 R v → condition_parts 2 (Made f R)
test_parts f see at g = record {
  parts = λ ts rest x s d.
      let le : 2 ≤ condition_level (f d.of).tree = omega (arith, at d.of) in
      subst (λ (z : Ranged CondTree). IsParted 2 (condition_level z.tree) (condition_roles z.tree) ts rest) (sym d.made) (tight le (recast (see d.of) (g.covers ts rest d.of s d.shape)));
}

comparison_role : (s : Comparison) → piece_role (comparison_sign s) ≡ role.Other
comparison_role comparisons.Equal = refl
comparison_role comparisons.NotEqual = refl
comparison_role comparisons.Less = refl
comparison_role comparisons.LessEqual = refl
comparison_role comparisons.Greater = refl
comparison_role comparisons.GreaterEqual = refl

pub type_role : (type : VariableType) → piece_role (type_word type) ≡ role.Other
type_role types.Int = refl
type_role types.Char = refl
type_role types.String = refl
type_role types.Atom = refl
type_role types.List = refl

comparison_covers : Covers true 0 0 (shape_of comparison) (λ s. role.Other ∷ [])
unfolding comparison
comparison_covers =
    either_covers (made_covers (means comparisons.Equal) _ (λ x. refl) (other_covers equal 0 quiet_equal))
    (either_covers (made_covers (means comparisons.NotEqual) _ (λ x. refl) (other_covers not_equal 0 quiet_not_equal))
    (either_covers (made_covers (means comparisons.Less) _ (λ x. refl) (other_covers less 0 quiet_less))
    (either_covers (made_covers (means comparisons.LessEqual) _ (λ x. refl) (other_covers less_equal 0 quiet_less_equal))
    (either_covers (made_covers (means comparisons.Greater) _ (λ x. refl) (other_covers greater 0 quiet_greater))
    (made_covers (means comparisons.GreaterEqual) _ (λ x. refl) (other_covers greater_equal 0 quiet_greater_equal))))))

-- what stands behind the names of an edge
abbrev label_behind : Option (Ranged Tree × Option Name) → List Piece
label_behind None = []
label_behind (Some x) = p.Sign k.Comma ∷ label_pieces x.0.tree x.1

type_roles : (type : VariableType) (d : Tree) → role.Other ∷ wrap (expression_roles d) ≡ condition_roles (c.HasType type d)
type_roles type d = ap₂ (λ a b. a ∷ b) (sym (type_role type)) (sym (roles_if true (expression d))) ∙ ap (λ (z : Part). roles z.pieces) (sym (of-HasType type d))

edge_roles : (source target : Name) (o : Option (Ranged Tree × Option Name)) → role.Other ∷ role.Opening ∷ name_role source ∷ role.Other ∷ name_role target ∷ (roles (label_behind o) ++ role.Closing ∷ []) ≡ condition_roles (joined_by source target o).tree
edge_roles source target None = ap (λ (z : Part). roles z.pieces) (sym (of-HasEdge source target))
edge_roles source target (Some x) =
    ap (λ m. role.Other ∷ role.Opening ∷ name_role source ∷ role.Other ∷ name_role target ∷ role.Other ∷ m) (sym (roles_append (label_pieces x.0.tree x.1) (p.Sign k.CloseParenthesis ∷ [])))
    ∙ ap (λ (z : Part). roles z.pieces) (sym (of-HasEdgeWith source target x.0.tree x.1))

edge_level : (source target : Name) (o : Option (Ranged Tree × Option Name)) → condition_level (joined_by source target o).tree ≡ 3
edge_level source target None = ap (λ (z : Part). z.level) (of-HasEdge source target)
edge_level source target (Some x) = ap (λ (z : Part). z.level) (of-HasEdgeWith source target x.0.tree x.1)

compared_roles : (s : Comparison) (d f : Tree) → expression_roles d ++ role.Other ∷ expression_roles f ≡ condition_roles (c.Compared s d f)
compared_roles s d f =
    ap (λ r. expression_roles d ++ r ∷ expression_roles f) (sym (comparison_role s)) ∙ sym (roles_append (expression d) (comparison_sign s ∷ expression f)) ∙ ap (λ (z : Part). roles z.pieces) (sym (of-Compared s d f))

module _ (lists : Grammar (Ranged Tree)) (g : Covers true 0 0 (shape_of lists) (λ (x : Ranged Tree). expression_roles x.tree)) where
  typed_parts : (type : VariableType) (w : Want) → AllExcluded w loud → condition_parts 2 (Made second_of (Is w then shape_of (typed lists type)))
  unfolding typed
  typed_parts type w e = record {
    parts = λ ts rest x s d.
        let a = (other_covers w 0 e).covers ts d.shape.mid d.of.0 s d.shape.first in
        let i = then_covers (opening_covers k.OpenParenthesis 0 (λ n. refl)) (then_covers (raised_covers 1 g) (closing_covers k.CloseParenthesis 0 (λ n. refl))) in
        let b = i.covers d.shape.mid rest d.shape.second.of a.left d.shape.second.shape in
        let y = d.shape.second.of.1.0.tree in
        let le : 2 ≤ condition_level (c.HasType type y) = omega (arith, ap (λ (z : Part). z.level) (of-HasType type y)) in
        subst (λ (z : Ranged CondTree). IsParted 2 (condition_level z.tree) (condition_roles z.tree) ts rest) (sym (d.made ∙ d.shape.second.made)) (tight le (recast (type_roles type y) (then_deeper a b)));
  }

  edge_label_covers : Covers false 0 0 (shape_of (edge_label lists)) (λ o. roles (label_behind o))
  unfolding edge_label
  edge_label_covers = either_covers (made_covers Some _ (λ x. refl) (sign_covers comma quiet_comma (label_covers lists g))) (absent_covers 0 None _ refl)

  edge_test_parts : condition_parts 2 (shape_of (edge_test lists))
  unfolding edge_test
  edge_test_parts =
      test_parts has_edge (λ y. edge_roles y.1.1.0 y.1.1.1.1.0 y.1.1.1.1.1.0) (λ y. edge_level y.1.1.0 y.1.1.1.1.0 y.1.1.1.1.1.0)
      (then_covers (other_covers edge_word 0 quiet_edge) (then_covers (opening_covers k.OpenParenthesis 0 (λ n. refl)) (then_covers (name_covers wants.Item 1 refl quiet_item)
      (then_covers (other_covers comma 1 quiet_comma) (then_covers (name_covers wants.Item 1 refl quiet_item) (then_covers (raised_covers 1 edge_label_covers) (closing_covers k.CloseParenthesis 0 (λ n. refl))))))))

  comparing_parts : condition_parts 2 (shape_of (comparing lists))
  unfolding comparing
  comparing_parts =
      test_parts compared (λ y. compared_roles y.1.0 y.0.tree y.1.1.tree) (λ y. ap (λ (z : Part). z.level) (of-Compared y.1.0 y.0.tree y.1.1.tree)) (then_covers g (then_covers comparison_covers g))

  test_is_part : condition_parts 2 (shape_of (plain_test lists))
  unfolding plain_test
  test_is_part =
      either_parts (typed_parts types.Int int_word quiet_int) (either_parts (typed_parts types.Char char_word quiet_char)
      (either_parts (typed_parts types.String string_word quiet_string) (either_parts (typed_parts types.Atom atom_word quiet_atom) (either_parts edge_test_parts comparing_parts))))

-- ---- conditions

module _ (h : Grammar (Ranged CondTree)) (q : condition_parts 2 (shape_of h)) where
  conjunction_parts : condition_parts 1 (shape_of (conjunction h))
  unfolding conjunction
  conjunction_parts =
      chain_parts (λ (x : Ranged CondTree). condition_level x.tree) (λ (x : Ranged CondTree). condition_roles x.tree) 1 and_word quiet_and (chained no_condition c.And) (λ x. refl)
      (λ x y ys. ap (λ (z : Part). z.level) (of-And x.tree (map tree_of (y ∷ ys))))
      (λ x y ys.
      ap (λ (z : Part). roles z.pieces) (of-And x.tree (map tree_of (y ∷ ys)))
      ∙ ap (λ zs. roles (chain (p.Word words.And) 1 (part_of_condition x.tree) zs).pieces) (maps_twice part_of_condition tree_of (y ∷ ys))
      ∙ chain_roles (p.Word words.And) 1 (λ (r : Ranged CondTree). part_of_condition r.tree) (part_of_condition x.tree) (y ∷ ys)) q

  disjunction_parts : condition_parts 0 (shape_of (disjunction h))
  unfolding disjunction
  disjunction_parts =
      chain_parts (λ (x : Ranged CondTree). condition_level x.tree) (λ (x : Ranged CondTree). condition_roles x.tree) 0 or_word quiet_or (chained no_condition c.Or) (λ x. refl)
      (λ x y ys. ap (λ (z : Part). z.level) (of-Or x.tree (map tree_of (y ∷ ys))))
      (λ x y ys.
      ap (λ (z : Part). roles z.pieces) (of-Or x.tree (map tree_of (y ∷ ys)))
      ∙ ap (λ zs. roles (chain (p.Word words.Or) 0 (part_of_condition x.tree) zs).pieces) (maps_twice part_of_condition tree_of (y ∷ ys))
      ∙ chain_roles (p.Word words.Or) 0 (λ (r : Ranged CondTree). part_of_condition r.tree) (part_of_condition x.tree) (y ∷ ys)) conjunction_parts

  -- "not" before it
  denied_parts : condition_parts 2 (Made (λ (x : Token × Ranged CondTree). record { tree = c.Not x.1.tree; past = x.1.past }) (Is not_word then shape_of h))
  denied_parts = record {
    parts = λ ts rest x s d.
        let a = not_covers.covers ts d.shape.mid d.of.0 s d.shape.first in
        let y = d.of.1.tree in
        let b = operand_deeper (q.parts d.shape.mid rest d.of.1 a.left d.shape.second) in
        let le : 2 ≤ condition_level (c.Not y) = omega (arith, ap (λ (z : Part). z.level) (of-Not y)) in
        let see = ap (λ m. role.Not ∷ m) (sym (roles_if _ (condition_pieces y))) ∙ ap (λ (z : Part). roles z.pieces) (sym (of-Not y)) in
        subst (λ (z : Ranged CondTree). IsParted 2 (condition_level z.tree) (condition_roles z.tree) ts rest) (sym d.made) (tight le (recast see (then_deeper a b)));
  }

  -- parentheses around it
  enclosed_parts : condition_parts 2 (shape_of (in_parentheses h))
  unfolding in_parentheses
  enclosed_parts = record {
    parts = λ ts rest x s d.
        let a = (opening_covers k.OpenParenthesis 0 (λ n. refl)).covers ts d.shape.mid d.of.0 s d.shape.first in
        let b = (disjunction_parts.parts d.shape.mid d.shape.second.mid d.of.1.0 a.left d.shape.second.first).bare in
        subst (λ (z : Ranged CondTree). IsParted 2 (condition_level z.tree) (condition_roles z.tree) ts rest) (sym d.made) (bracketed s d.shape.first b d.shape.second.second);
  }

negation_parts : (lists : Grammar (Ranged Tree)) → Covers true 0 0 (shape_of lists) (λ (x : Ranged Tree). expression_roles x.tree) → (n : ℕ) → condition_parts 2 (shape_of (negation lists n))
unfolding negation negated_in
negation_parts lists g zero = record { parts = λ ts rest x s d. absurd d }
negation_parts lists g (suc n) =
    let q = negation_parts lists g n in
    either_parts (denied_parts (negation lists n) q) (either_parts (enclosed_parts (negation lists n) q) (test_is_part lists g))

pub condition_covers : (room n : ℕ) → Covers true 0 0 (shape_of (condition room n)) (λ (x : Ranged CondTree). condition_roles x.tree)
condition_covers room n = record { covers = λ ts rest x s d. ((disjunction_parts (negation (list room) n) (negation_parts (list room) (list_covers room) n)).parts ts rest x s d).bare }
