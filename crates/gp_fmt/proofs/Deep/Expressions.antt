-- Expressions, nested no deeper than their texts.
use Rattle.std.proofs.Common.{◌≡◌, ℕ, zero, suc, ◌≤◌, ◌^◌, pos, negsuc, neg_ℤ, Bool, true, false, ◌||◌, nat_le, nat_lt, if◌then◌else◌, List, [], ◌∷◌, ◌++◌, map, Some, None, refl, sym, ◌∙◌, ap, ap₂, subst, arith}
use Rattle.std.specs.Prelude.{flat_map}
use Rattle.gp_memory.proofs.Basics.{maps_twice}
use Rattle.gp_tokens.specs.declared.token.Token.{Token}
use Rattle.gp_tokens.specs.declared.token.Kind.TheVariants as k
use Rattle.gp_tokens.specs.declared.keyword.Keyword.TheVariants as words
use Rattle.gp_tokens.specs.declared.want.Want.{Want}
use Rattle.gp_tokens.specs.declared.want.Want.TheVariants as wants
use Rattle.gp_tokens.specs.Grammar.{Grammar, shape_of}
use Rattle.gp_tokens.specs.Shape.{Shape, Is, IsString, IsNumberAt, ◌then◌, Made, Either, one, other}
use Rattle.gp_tokens.specs.SignWants.{number_sign, string_sign, open_sign, close_sign, minus}
use Rattle.gp_syntax.specs.declared.expression.Signed.{Signed}
use Rattle.gp_syntax.specs.declared.expression.SumSign.{SumSign}
use Rattle.gp_syntax.specs.declared.expression.SumSign.TheVariants as sums
use Rattle.gp_syntax.specs.declared.expression.ProductSign.{ProductSign}
use Rattle.gp_syntax.specs.declared.expression.ProductSign.TheVariants as products
use Rattle.gp_syntax.specs.declared.expression.Expr.TheVariants as e
use Rattle.gp_expressions.specs.declared.ranged.Ranged.{Ranged}
use Rattle.gp_expressions.specs.Ranges.{chained}
use Rattle.gp_expressions.specs.Signs.{indegree_word, outdegree_word, length_word}
use Rattle.gp_expressions.specs.Expressions.{Tree, sum_tree, product_tree, numeral_tree, positive, negative, negated, unary, quotients, product, differences, sum, dots, joins, name, inner, argument, text, variable, empty_list, of_name, leaf, nested, operand, list}
use Rattle.gp_program.specs.declared.depth.Role.{Role}
use Rattle.gp_program.specs.declared.depth.Role.TheVariants as role
use Rattle.gp_fmt.specs.declared.piece.Piece.{Piece}
use Rattle.gp_fmt.specs.declared.piece.Piece.TheVariants as p
use Rattle.gp_fmt.specs.Expressions.{Part, in_parentheses_if, member, is_numeral, chain, signed_chain, sum_sign, product_sign, part_of_expression, expression}
use Rattle.gp_fmt.proofs.Deep.Under.{minus_under, other_under, both_under, zero_under, zero_negated}
use Rattle.gp_fmt.proofs.Deep.Roles.{piece_role, roles, roles_append, name_role}
use Rattle.gp_fmt.proofs.Deep.Quiet.{quiet_string_sign, quiet_number_sign, quiet_item, quiet_variable, quiet_empty, quiet_indegree, quiet_outdegree, quiet_length, quiet_colon, quiet_dot, quiet_plus, quiet_star, quiet_slash}
use Rattle.gp_fmt.proofs.Deep.Texts.{AreSpelled, IsDeeper, then_deeper, recast, Covers, other_covers, opening_covers, closing_covers, minus_covers, name_covers, then_covers, made_covers, either_covers, loud_covers, IsSign, minus_sign, other_sign, two_deeper, three_deeper}
use Rattle.gp_fmt.proofs.Forms.{operands, of-Number, of-Text, of-Variable, of-InDegree, of-OutDegree, of-Length, of-Empty, of-Negated, of-Sum, of-Product, of-Dot, of-Join}
use Rattle.gp_fmt.proofs.Deep.Parts.{tree_of, IsParted, Parts, member_roles, roles_if, needed_deeper, tight, bracketed, chain_parts, Rows, row_rows, rows_parts}

abbrev pub expression_level : Tree → ℕ
expression_level x = (part_of_expression x).level

abbrev pub expression_roles : Tree → List Role
expression_roles x = roles (expression x)

abbrev pub expression_parts : ℕ → Shape (Ranged Tree) → Type 0
expression_parts l R = Parts l (λ (x : Ranged Tree). expression_level x.tree) (λ (x : Ranged Tree). expression_roles x.tree) R

-- ---- what has no operator

alone_level : (x : Tree) {l : ℕ} {ps : List Piece} → part_of_expression x ≡ record { level = l; pieces = ps } → expression_level x ≡ l
alone_level x h = ap (λ (z : Part). z.level) h

alone_roles : (x : Tree) {l : ℕ} {ps : List Piece} → part_of_expression x ≡ record { level = l; pieces = ps } → roles ps ≡ expression_roles x
alone_roles x h = ap (λ (z : Part). roles z.pieces) (sym h)

record IsLeaf (x : Tree) : Type 0 where
  level_is : expression_level x ≡ 5
  no_numeral : is_numeral (expression x) ≡ false

leaf_by : {x : Tree} {ps : List Piece} → part_of_expression x ≡ record { level = 5; pieces = ps } → is_numeral ps ≡ false → IsLeaf x
leaf_by h n = record { level_is = ap (λ (z : Part). z.level) h; no_numeral = ap (λ (z : Part). is_numeral z.pieces) h ∙ n }

string_covers : Covers true 0 0 IsString (λ s. role.Other ∷ [])
string_covers = record { covers = λ ts rest x s h. (other_covers string_sign 0 quiet_string_sign).covers ts rest h.token s h.is }

number_covers : Covers true 0 0 IsNumberAt (λ x. role.Other ∷ [])
number_covers = record { covers = λ ts rest x s h. (other_covers number_sign 0 quiet_number_sign).covers ts rest h.token s h.is }

argument_covers : (w : Want) → Covers true 1 1 (shape_of (name w)) (λ n. name_role n ∷ []) → Covers true 0 0 (shape_of (argument w)) (λ n. role.Opening ∷ name_role n ∷ role.Closing ∷ [])
unfolding argument
argument_covers w g = made_covers inner _ (λ x. refl) (then_covers (opening_covers k.OpenParenthesis 0 (λ n. refl)) (then_covers g (closing_covers k.CloseParenthesis 0 (λ n. refl))))

leaf_covers : Covers true 0 0 (shape_of leaf) (λ (x : Ranged Tree). expression_roles x.tree)
unfolding leaf
leaf_covers =
    let v = λ (x : Ranged Tree). expression_roles x.tree in
    either_covers (made_covers text v (λ s. alone_roles _ (of-Text s)) string_covers)
    (either_covers (made_covers variable v (λ n. alone_roles _ (of-Variable n)) (name_covers wants.Variable 0 refl quiet_variable))
    (either_covers (made_covers empty_list v (λ t. alone_roles _ of-Empty) (other_covers _ 0 quiet_empty))
    (either_covers (made_covers (of_name e.InDegree) v (λ x. alone_roles _ (of-InDegree x.1)) (then_covers (other_covers indegree_word 0 quiet_indegree) (argument_covers wants.Item (name_covers wants.Item 1 refl quiet_item))))
    (either_covers (made_covers (of_name e.OutDegree) v (λ x. alone_roles _ (of-OutDegree x.1)) (then_covers (other_covers outdegree_word 0 quiet_outdegree) (argument_covers wants.Item (name_covers wants.Item 1 refl quiet_item))))
    (made_covers (of_name e.Length) v (λ x. alone_roles _ (of-Length x.1)) (then_covers (other_covers length_word 0 quiet_length) (argument_covers wants.Variable (name_covers wants.Variable 1 refl quiet_variable))))))))

leaves : (ts rest : List Token) (x : Ranged Tree) → shape_of leaf ts rest x → IsLeaf x.tree
unfolding leaf
leaves ts rest x (one d) = subst (λ (z : Ranged Tree). IsLeaf z.tree) (sym d.made) (leaf_by (of-Text d.of) refl)
leaves ts rest x (other (one d)) = subst (λ (z : Ranged Tree). IsLeaf z.tree) (sym d.made) (leaf_by (of-Variable d.of) refl)
leaves ts rest x (other (other (one d))) = subst (λ (z : Ranged Tree). IsLeaf z.tree) (sym d.made) (leaf_by of-Empty refl)
leaves ts rest x (other (other (other (one d)))) = subst (λ (z : Ranged Tree). IsLeaf z.tree) (sym d.made) (leaf_by (of-InDegree d.of.1) refl)
leaves ts rest x (other (other (other (other (one d))))) = subst (λ (z : Ranged Tree). IsLeaf z.tree) (sym d.made) (leaf_by (of-OutDegree d.of.1) refl)
leaves ts rest x (other (other (other (other (other d))))) = subst (λ (z : Ranged Tree). IsLeaf z.tree) (sym d.made) (leaf_by (of-Length d.of.1) refl)

-- ---- operands

-- behind a unary minus
abbrev negand : Tree → List Piece
negand x = in_parentheses_if (nat_lt (expression_level x) 4 || is_numeral (expression x)) (expression x)

record IsOperand (x : Tree) (ts rest : List Token) : Type 0 where
  parted : IsParted 4 (expression_level x) (expression_roles x) ts rest
  negated : (us : List Token) (t : Token) → AreSpelled us → Is minus us ts t → IsDeeper true 0 0 (role.Minus ∷ roles (negand x)) us rest

record Operands (R : Shape (Ranged Tree)) : Type 0 where
  operands_of : (ts rest : List Token) (x : Ranged Tree) → AreSpelled ts → R ts rest x → IsOperand x.tree ts rest

moved : {x y : Tree} {ts rest : List Token} → y ≡ x → IsOperand x ts rest → IsOperand y ts rest
moved {x} {y} {ts} {rest} h o = subst (λ z. IsOperand z ts rest) (sym h) o

unneeded : (level : ℕ) (ps : List Piece) → level ≡ 5 → is_numeral ps ≡ false → roles ps ≡ roles (in_parentheses_if (nat_lt level 4 || is_numeral ps) ps)
unneeded level ps a b = rw (a, b) refl

leaf_operand : (x : Tree) (ts rest : List Token) → IsLeaf x → IsDeeper true 0 0 (expression_roles x) ts rest → IsOperand x ts rest
leaf_operand x ts rest l d =
    let le : 4 ≤ expression_level x = omega (arith, l.level_is) in
    record {
      parted = tight le d;
      negated = λ us t s h. recast (ap (λ m. role.Minus ∷ m) (unneeded (expression_level x) (expression x) l.level_is l.no_numeral)) (then_deeper (minus_covers.covers us ts t s h) d);
    }

-- in parentheses
nested_operand : (x : Tree) {ts inside last rest : List Token} {t t' : Token} → AreSpelled ts → Is open_sign ts inside t → IsDeeper true 0 0 (expression_roles x) inside last → Is close_sign last rest t' → IsOperand x ts rest
nested_operand x {ts} {rest = rest} s o d c =
    let b : IsParted (suc (expression_level x)) (expression_level x) (expression_roles x) ts rest = bracketed s o d c in
    let needed = nat_lt (expression_level x) 4 || is_numeral (expression x) in
    record {
      parted = bracketed s o d c;
      negated = λ us t s h. recast (ap (λ m. role.Minus ∷ m) (sym (roles_if needed (expression x)))) (then_deeper (minus_covers.covers us ts t s h) (needed_deeper needed b.bare (λ e. b.wrapped (omega arith))));
    }

negated_roles : (y : Tree) → expression_roles (e.Negated y) ≡ role.Minus ∷ roles (negand y)
negated_roles y = ap (λ (z : Part). roles z.pieces) (of-Negated y)

negand_negated : (y : Tree) → roles (negand (e.Negated y)) ≡ role.Minus ∷ roles (negand y)
negand_negated y = ap (λ (z : Part). roles (in_parentheses_if (nat_lt z.level 4 || is_numeral z.pieces) z.pieces)) (of-Negated y)

-- behind a minus
negated_operand : (y : Tree) {ts mid rest : List Token} {t : Token} → AreSpelled ts → Is minus ts mid t → IsOperand y mid rest → IsOperand (e.Negated y) ts rest
negated_operand y {ts} {mid} {rest} {t} s h o =
    let d = o.negated ts t s h in
    let le : 4 ≤ expression_level (e.Negated y) = omega (arith, alone_level _ (of-Negated y)) in
    record {
      parted = tight le (recast (sym (negated_roles y)) d);
      negated = λ us t' s' h'. recast (ap (λ m. role.Minus ∷ m) (sym (negand_negated y))) (then_deeper (minus_covers.covers us ts t' s' h') d);
    }

-- ---- a numeral behind a minus

data IsMinusNumber (x : Tree) : Type 0 where
  zero_numeral : part_of_expression x ≡ record { level = 5; pieces = p.Number 0 ∷ [] } → IsMinusNumber x
  negative_numeral : (n : ℕ) → part_of_expression x ≡ record { level = 5; pieces = p.Negation ∷ p.Number n ∷ [] } → IsMinusNumber x
  past_numeral : part_of_expression x ≡ record { level = 5; pieces = p.Word words.Empty ∷ [] } → IsMinusNumber x

minus_numeral : (b : Bool) (start value : ℕ) → IsMinusNumber (numeral_tree start (if b then Some (neg_ℤ (pos value)) else None)).tree
minus_numeral true start zero = zero_numeral (of-Number (pos 0))
minus_numeral true start (suc n) = negative_numeral (suc n) (of-Number (negsuc n))
minus_numeral false start value = past_numeral of-Empty

number_operand : (x : Tree) {ts mid rest : List Token} → IsMinusNumber x → AreSpelled ts → IsSign role.Minus ts mid → IsSign role.Other mid rest → IsOperand x ts rest
number_operand x {ts} {mid} {rest} (zero_numeral h) s g o =
    let le : 4 ≤ expression_level x = omega (arith, alone_level _ h) in
    let n : role.Opening ∷ role.Other ∷ role.Closing ∷ [] ≡ roles (negand x) = ap (λ (z : Part). roles (in_parentheses_if (nat_lt z.level 4 || is_numeral z.pieces) z.pieces)) (sym h) in
    record { parted = tight le (recast (alone_roles _ h) (two_deeper s g o zero_under)); negated = λ us t s' h'. recast (ap (λ m. role.Minus ∷ m) n) (three_deeper s' (minus_sign h') g o zero_negated) }
number_operand x {ts} {mid} {rest} (negative_numeral v h) s g o =
    let le : 4 ≤ expression_level x = omega (arith, alone_level _ h) in
    let u = both_under false true 0 0 0 _ _ _ _ (minus_under 0) (other_under 0) in
    let n : role.Minus ∷ role.Other ∷ [] ≡ roles (negand x) = ap (λ (z : Part). roles (in_parentheses_if (nat_lt z.level 4 || is_numeral z.pieces) z.pieces)) (sym h) in
    record {
      parted = tight le (recast (alone_roles _ h) (two_deeper s g o u));
      negated = λ us t s' h'. recast (ap (λ m. role.Minus ∷ m) n) (three_deeper s' (minus_sign h') g o (both_under false true 0 0 0 _ _ _ _ (minus_under 0) u));
    }
number_operand x {ts} {mid} {rest} (past_numeral h) s g o =
    let le : 4 ≤ expression_level x = omega (arith, alone_level _ h) in
    let n : role.Other ∷ [] ≡ roles (negand x) = ap (λ (z : Part). roles (in_parentheses_if (nat_lt z.level 4 || is_numeral z.pieces) z.pieces)) (sym h) in
    record {
      parted = tight le (recast (alone_roles _ h) (two_deeper s g o zero_under));
      negated = λ us t s' h'. recast (ap (λ m. role.Minus ∷ m) n) (three_deeper s' (minus_sign h') g o (both_under false true 0 0 0 _ _ _ _ (minus_under 0) zero_under));
    }

-- ---- chains

chain_flat : {Y : Type 0} (sign : Piece) (l : ℕ) (part : Y → Part) (xs : List Y)
    → roles (flat_map (λ y. sign ∷ member l y) (map part xs)) ≡ flat_map (λ z. piece_role sign ∷ member_roles l (part z).level (roles (part z).pieces)) xs
chain_flat sign l part [] = refl
chain_flat sign l part (x ∷ xs) =
    ap (λ m. piece_role sign ∷ m) (roles_append (member l (part x)) (flat_map (λ y. sign ∷ member l y) (map part xs)) ∙ ap₂ (λ a b. a ++ b) (roles_if (nat_le (part x).level l) (part x).pieces) (chain_flat sign l part xs))

pub chain_roles : {Y : Type 0} (sign : Piece) (l : ℕ) (part : Y → Part) (first : Part) (xs : List Y)
    → roles (chain sign l first (map part xs)).pieces ≡ member_roles l first.level (roles first.pieces) ++ flat_map (λ z. piece_role sign ∷ member_roles l (part z).level (roles (part z).pieces)) xs
chain_roles sign l part first xs = roles_append (member l first) (flat_map (λ y. sign ∷ member l y) (map part xs)) ∙ ap₂ (λ a b. a ++ b) (roles_if (nat_le first.level l) first.pieces) (chain_flat sign l part xs)

signed_flat : {S : Type 0} (sign : S → Piece) (l : ℕ) (ys : List (Signed S Tree))
    → roles (flat_map (λ (y : Signed S Part). sign y.sign ∷ member l y.operand) (operands ys)) ≡ flat_map (λ (y : Signed S Tree). piece_role (sign y.sign) ∷ member_roles l (expression_level y.operand) (expression_roles y.operand)) ys
signed_flat sign l [] = refl
signed_flat {S} sign l (y ∷ ys) =
    ap (λ m. piece_role (sign y.sign) ∷ m) (
    roles_append (member l (part_of_expression y.operand)) (flat_map (λ (z : Signed S Part). sign z.sign ∷ member l z.operand) (operands ys))
    ∙ ap₂ (λ a b. a ++ b) (roles_if (nat_le (expression_level y.operand) l) (expression y.operand)) (signed_flat sign l ys)
    )

signed_roles : {S : Type 0} (sign : S → Piece) (l : ℕ) (x : Tree) (ys : List (Signed S Tree))
    → roles (signed_chain sign l (part_of_expression x) (operands ys)).pieces
    ≡ member_roles l (expression_level x) (expression_roles x) ++ flat_map (λ (y : Signed S Tree). piece_role (sign y.sign) ∷ member_roles l (expression_level y.operand) (expression_roles y.operand)) ys
signed_roles {S} sign l x ys =
    roles_append (member l (part_of_expression x)) (flat_map (λ (z : Signed S Part). sign z.sign ∷ member l z.operand) (operands ys))
    ∙ ap₂ (λ a b. a ++ b) (roles_if (nat_le (expression_level x) l) (expression x)) (signed_flat sign l ys)

-- ---- lists, where the operands are known

module _ (g : Grammar (Ranged Tree)) (o : Operands (shape_of g)) where
  numeral_part : (b : Bool) (start value : ℕ) → (expression_level (numeral_tree start (if b then Some (pos value) else None)).tree ≡ 5) × (role.Other ∷ [] ≡ expression_roles (numeral_tree start (if b then Some (pos value) else None)).tree)
  numeral_part true start value = (alone_level _ (of-Number (pos value)), alone_roles _ (of-Number (pos value)))
  numeral_part false start value = (alone_level _ of-Empty, alone_roles _ of-Empty)

  unary_parts : expression_parts 4 (shape_of (unary g))
  unfolding unary
  unary_parts = record { parts = go }
    where
      go : (ts rest : List Token) (x : Ranged Tree) → AreSpelled ts → Either (Made positive IsNumberAt) (shape_of g) ts rest x → IsParted 4 (expression_level x.tree) (expression_roles x.tree) ts rest
      go ts rest x s (one d) =
          let n = numeral_part (nat_lt d.of.0 (2 ^ 127)) d.of.1 d.of.0 in
          let le : 4 ≤ expression_level (positive d.of).tree = omega (arith, n.0) in
          subst (λ (z : Ranged Tree). IsParted 4 (expression_level z.tree) (expression_roles z.tree) ts rest) (sym d.made) (tight le (recast n.1 (number_covers.covers ts rest d.of s d.shape)))
      go ts rest x s (other d) = (o.operands_of ts rest x s d).parted

  quotient_rows : Rows expression_level expression_roles 3 (λ (s : ProductSign). piece_role (product_sign s)) products.Times (shape_of (quotients g))
  unfolding quotients
  quotient_rows = row_rows expression_level expression_roles 3 (λ (s : ProductSign). piece_role (product_sign s)) _ products.Times products.Over (loud_covers (other_covers _ 0 quiet_slash)) unary_parts

  product_parts : expression_parts 3 (shape_of (product g))
  unfolding product
  product_parts =
      rows_parts expression_level expression_roles 3 (λ (s : ProductSign). piece_role (product_sign s)) _ products.Times (loud_covers (other_covers _ 0 quiet_star)) quotient_rows product_tree (λ s. refl)
      (λ x y ys. ap (λ (z : Part). z.level) (of-Product x.operand (y ∷ ys))) (λ x y ys. ap (λ (z : Part). roles z.pieces) (of-Product x.operand (y ∷ ys)) ∙ signed_roles product_sign 3 x.operand (y ∷ ys))

  difference_rows : Rows expression_level expression_roles 2 (λ (s : SumSign). piece_role (sum_sign s)) sums.Plus (shape_of (differences g))
  unfolding differences
  difference_rows = row_rows expression_level expression_roles 2 (λ (s : SumSign). piece_role (sum_sign s)) _ sums.Plus sums.Minus minus_covers product_parts

  sum_parts : expression_parts 2 (shape_of (sum g))
  unfolding sum
  sum_parts =
      rows_parts expression_level expression_roles 2 (λ (s : SumSign). piece_role (sum_sign s)) _ sums.Plus (loud_covers (other_covers _ 0 quiet_plus)) difference_rows sum_tree (λ s. refl)
      (λ x y ys. ap (λ (z : Part). z.level) (of-Sum x.operand (y ∷ ys))) (λ x y ys. ap (λ (z : Part). roles z.pieces) (of-Sum x.operand (y ∷ ys)) ∙ signed_roles sum_sign 2 x.operand (y ∷ ys))

  dots_parts : expression_parts 1 (shape_of (dots g))
  unfolding dots
  dots_parts =
      chain_parts (λ (x : Ranged Tree). expression_level x.tree) (λ (x : Ranged Tree). expression_roles x.tree) 1 _ quiet_dot (chained e.Empty e.Dot) (λ x. refl)
      (λ x y ys. ap (λ (z : Part). z.level) (of-Dot x.tree (map tree_of (y ∷ ys))))
      (λ x y ys.
      ap (λ (z : Part). roles z.pieces) (of-Dot x.tree (map tree_of (y ∷ ys)))
      ∙ ap (λ zs. roles (chain (p.Sign k.Dot) 1 (part_of_expression x.tree) zs).pieces) (maps_twice part_of_expression tree_of (y ∷ ys))
      ∙ chain_roles (p.Sign k.Dot) 1 (λ (r : Ranged Tree). part_of_expression r.tree) (part_of_expression x.tree) (y ∷ ys)) sum_parts

  joins_parts : expression_parts 0 (shape_of (joins g))
  unfolding joins
  joins_parts =
      chain_parts (λ (x : Ranged Tree). expression_level x.tree) (λ (x : Ranged Tree). expression_roles x.tree) 0 _ quiet_colon (chained e.Empty e.Join) (λ x. refl)
      (λ x y ys. ap (λ (z : Part). z.level) (of-Join x.tree (map tree_of (y ∷ ys))))
      (λ x y ys.
      ap (λ (z : Part). roles z.pieces) (of-Join x.tree (map tree_of (y ∷ ys)))
      ∙ ap (λ zs. roles (chain (p.Sign k.Colon) 0 (part_of_expression x.tree) zs).pieces) (maps_twice part_of_expression tree_of (y ∷ ys))
      ∙ chain_roles (p.Sign k.Colon) 0 (λ (r : Ranged Tree). part_of_expression r.tree) (part_of_expression x.tree) (y ∷ ys)) dots_parts

  -- ---- one minus or one pair of parentheses more

  nested_operands : Operands (shape_of (nested g))
  unfolding nested
  nested_operands = record { operands_of = go }
    where
      go : (ts rest : List Token) (x : Ranged Tree) → AreSpelled ts → shape_of (nested g) ts rest x → IsOperand x.tree ts rest
      go ts rest x s (one d) = moved (ap tree_of d.made) (behind d.shape.second)
        where
          behind : Either (Made negative IsNumberAt) (Made negated (shape_of g)) d.shape.mid rest d.of.1 → IsOperand d.of.1.tree ts rest
          behind (one n) =
              moved (ap tree_of n.made)
              (number_operand _ (minus_numeral (nat_le n.of.0 (2 ^ 127)) n.of.1 n.of.0) s (minus_sign d.shape.first) (other_sign number_sign quiet_number_sign n.shape.is))
          behind (other n) =
              let left = (minus_covers.covers ts d.shape.mid d.of.0 s d.shape.first).left in
              moved (ap tree_of n.made) (negated_operand n.of.tree s d.shape.first (o.operands_of d.shape.mid rest n.of left n.shape))
      go ts rest x s (other (one d)) =
          let left = ((opening_covers k.OpenParenthesis 0 (λ n. refl)).covers ts d.shape.mid d.of.0 s d.shape.first).left in
          let inside = joins_parts.parts d.shape.mid d.shape.second.mid d.of.1.0 left d.shape.second.first in
          moved (ap tree_of d.made) (nested_operand d.of.1.0.tree s d.shape.first inside.bare d.shape.second.second)
      go ts rest x s (other (other d)) = leaf_operand x.tree ts rest (leaves ts rest x d) (leaf_covers.covers ts rest x s d)

-- ---- at each room

operand_operands : (n : ℕ) → Operands (shape_of (operand n))
unfolding operand
operand_operands zero = record { operands_of = λ ts rest x s d. absurd d }
operand_operands (suc n) = nested_operands (operand n) (operand_operands n)

pub list_covers : (n : ℕ) → Covers true 0 0 (shape_of (list n)) (λ (x : Ranged Tree). expression_roles x.tree)
list_covers n = record { covers = λ ts rest x s d. ((joins_parts (operand n) (operand_operands n)).parts ts rest x s d).bare }
