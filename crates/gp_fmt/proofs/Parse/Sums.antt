-- Chains of expressions are read again where their members are.
use Rattle.std.proofs.Common.{◌≡◌, ◌⊎◌, inl, inr, ℕ, suc, ◌≤◌, true, false, true≢false, List, ◌∷◌, ◌++◌, flat_map, refl, sym, ap, subst, ◌∙◌, arith}
use Rattle.std.specs.Prelude.{nat_lt, ◌||◌}
use Rattle.std.specs.List.{AllByRecursion}
use Rattle.gp_tokens.specs.declared.token.Kind.TheVariants as k
use Rattle.gp_tokens.specs.Kinds.{same_kind}
use Rattle.gp_values.specs.Names.{Name}
use Rattle.gp_tokens.specs.Wants.{meets}
use Rattle.gp_tokens.specs.Grammar.{shape_of}
use Rattle.gp_tokens.specs.SignWants.{minus, plus, star, slash, dot, colon}
use Rattle.gp_syntax.specs.declared.expression.Signed.{Signed}
use Rattle.gp_syntax.specs.declared.expression.SumSign.{SumSign}
use Rattle.gp_syntax.specs.declared.expression.SumSign.TheVariants as sums
use Rattle.gp_syntax.specs.declared.expression.ProductSign.{ProductSign}
use Rattle.gp_syntax.specs.declared.expression.ProductSign.TheVariants as products
use Rattle.gp_syntax.specs.declared.expression.Expr.TheVariants as e
use Rattle.gp_syntax.specs.declared.expression.Expr.TheOpen.{Expr-F}
use Rattle.gp_syntax.specs.declared.expression.Expr.TheFolds.{fold-roll-Expr}
use Rattle.gp_expressions.specs.Ranges.{whole}
use Rattle.gp_expressions.specs.Expressions.{Tree, quotients, product, differences, sum, dots, joins, operand, sum_tree, product_tree}
use Rattle.gp_fmt.specs.declared.piece.Piece.{Piece}
use Rattle.gp_fmt.specs.declared.piece.Piece.TheVariants as p
use Rattle.gp_fmt.specs.Expressions.{Part, member, is_numeral, sum_sign, product_sign, minus_level, sum_level, product_level, dot_level, join_level, expression_step, part_of_expression}
use Rattle.gp_fmt.specs.inside.Spelled.{IsWellSpelled}
use Rattle.gp_fmt.proofs.Parse.Printed.{Reads}
use Rattle.gp_fmt.proofs.Parse.Rooms.{Roomy, becomes, together, all_roomy}
use Rattle.gp_fmt.proofs.Parse.Chains.{chain_reads}
use Rattle.gp_fmt.proofs.Parse.Groups.{groups_read}
use Rattle.gp_fmt.proofs.Parse.Levels.{grammar_at}
use Rattle.gp_fmt.proofs.Parse.Spelling.{AreWell, well_append, well_flat, all_into, flat_map-map, colon_well, dot_well, plus_well, minus_well, star_well, slash_well}
use Rattle.gp_fmt.proofs.Parse.Parts.{IsGoodPart, IsGood, member_reads, member_well}

not_bare : (level : ℕ) (ps : List Piece) → nat_lt level minus_level ≡ true → (nat_lt level minus_level || is_numeral ps) ≡ false → ⊥
not_bare level ps low none = let wrong : true ≡ false = subst (λ b. (b || is_numeral ps) ≡ false) low none in true≢false wrong

-- ---- lists and strings

module _ (sign : Piece) (sign_well : IsWellSpelled sign) (level : ℕ) (low : nat_lt level minus_level ≡ true) (le : level ≤ 3) (make : Tree → List Tree → Tree) (x y : Tree) (ys : List Tree) where
  abbrev inside : Tree → List Piece
  inside e = member level (part_of_expression e)

  abbrev pieces : List Piece
  pieces = inside x ++ flat_map (λ y. sign ∷ inside y) (y ∷ ys)

  abbrev MemberReads : Tree → ℕ → ℕ → Type 0
  MemberReads e m n = Reads (inside e) (shape_of (grammar_at (suc level) n)) (whole e)

  chain_part : ((n : ℕ) → MemberReads x 0 n → AllByRecursion (λ y. MemberReads y 0 n) (y ∷ ys) → Reads pieces (shape_of (grammar_at level n)) (whole (make x (y ∷ ys))))
      → IsGood x → AllByRecursion IsGood (y ∷ ys) → IsGoodPart (record { level = level; pieces = pieces }) (make x (y ∷ ys))
  chain_part read h hs = record {
    well = well_append (inside x) _ (member_well level _ x h) (well_flat (λ y. sign ∷ inside y) (y ∷ ys) (all_into IsGood (λ y. AreWell (sign ∷ inside y)) (λ y g. (sign_well, member_well level _ y g)) (y ∷ ys) hs));
    reads =
        becomes (λ m n. MemberReads x m n × AllByRecursion (λ y. MemberReads y m n) (y ∷ ys)) (λ m n. Reads pieces (shape_of (grammar_at level n)) (whole (make x (y ∷ ys)))) (λ m n r. read n r.0 r.1)
        (together (MemberReads x) (λ m n. AllByRecursion (λ y. MemberReads y m n) (y ∷ ys)) (member_reads level le (part_of_expression x) x h)
        (all_roomy MemberReads (y ∷ ys) (all_into IsGood (λ y. Roomy (MemberReads y)) (λ y g. member_reads level le (part_of_expression y) y g) (y ∷ ys) hs)));
    bare = λ none. absurd (not_bare level pieces low none);
  }

dot_is : (x : Tree) (ys : List Tree) → part_of_expression (e.Dot x ys) ≡ record { level = dot_level; pieces = member dot_level (part_of_expression x) ++ flat_map (λ y. p.Sign k.Dot ∷ member dot_level (part_of_expression y)) ys }
unfolding part_of_expression
dot_is x ys =
    ap part_of_expression (sym (e.rolls-Dot x ys)) ∙ (fold-roll-Expr Name Part expression_step (Expr-F.Dot x ys)
    ∙ ap (λ (l : List Piece). record { level = dot_level; pieces = member dot_level (part_of_expression x) ++ l }) (flat_map-map (λ y. p.Sign k.Dot ∷ member dot_level y) part_of_expression ys))

join_is : (x : Tree) (ys : List Tree) → part_of_expression (e.Join x ys) ≡ record { level = join_level; pieces = member join_level (part_of_expression x) ++ flat_map (λ y. p.Sign k.Colon ∷ member join_level (part_of_expression y)) ys }
unfolding part_of_expression
join_is x ys =
    ap part_of_expression (sym (e.rolls-Join x ys)) ∙ (fold-roll-Expr Name Part expression_step (Expr-F.Join x ys)
    ∙ ap (λ (l : List Piece). record { level = join_level; pieces = member join_level (part_of_expression x) ++ l }) (flat_map-map (λ y. p.Sign k.Colon ∷ member join_level y) part_of_expression ys))

pub good_dot : (x y : Tree) (ys : List Tree) → IsGood x → AllByRecursion IsGood (y ∷ ys) → IsGood (e.Dot x (y ∷ ys))
unfolding dots meets same_kind
good_dot x y ys h hs =
    subst (λ (z : Part). IsGoodPart z (e.Dot x (y ∷ ys))) (sym (dot_is x (y ∷ ys)))
    (chain_part (p.Sign k.Dot) dot_well dot_level refl (omega arith) e.Dot x y ys
    (λ n r rs. chain_reads e.Empty e.Dot (p.Sign k.Dot) dot (λ start. refl) (shape_of (sum (operand n))) (λ e. member dot_level (part_of_expression e)) x y ys r rs) h hs)

pub good_join : (x y : Tree) (ys : List Tree) → IsGood x → AllByRecursion IsGood (y ∷ ys) → IsGood (e.Join x (y ∷ ys))
unfolding joins meets same_kind
good_join x y ys h hs =
    subst (λ (z : Part). IsGoodPart z (e.Join x (y ∷ ys))) (sym (join_is x (y ∷ ys)))
    (chain_part (p.Sign k.Colon) colon_well join_level refl (omega arith) e.Join x y ys
    (λ n r rs. chain_reads e.Empty e.Join (p.Sign k.Colon) colon (λ start. refl) (shape_of (dots (operand n))) (λ e. member join_level (part_of_expression e)) x y ys r rs) h hs)

-- ---- sums and products

abbrev pub IsGoodOperand : {S : Type 0} → Signed S Tree → Type 0
IsGoodOperand y = IsGood y.operand

module _ {S : Type 0} (sign : S → Piece) (sign_well : (s : S) → IsWellSpelled (sign s)) (level : ℕ) (low : nat_lt level minus_level ≡ true) (le : level ≤ 3) (tree x : Tree) (ys : List (Signed S Tree)) where
  abbrev within : Tree → List Piece
  within e = member level (part_of_expression e)

  abbrev signed_pieces : List Piece
  signed_pieces = within x ++ flat_map (λ (y : Signed S Tree). sign y.sign ∷ within y.operand) ys

  abbrev OperandReads : Tree → ℕ → ℕ → Type 0
  OperandReads e m n = Reads (within e) (shape_of (grammar_at (suc level) n)) (whole e)

  signed_part : ((n : ℕ) → OperandReads x 0 n → AllByRecursion (λ (y : Signed S Tree). OperandReads y.operand 0 n) ys → Reads signed_pieces (shape_of (grammar_at level n)) (whole tree))
      → IsGood x → AllByRecursion IsGoodOperand ys → IsGoodPart (record { level = level; pieces = signed_pieces }) tree
  signed_part read h hs = record {
    well = well_append (within x) _ (member_well level _ x h) (well_flat (λ (y : Signed S Tree). sign y.sign ∷ within y.operand) ys
        (all_into IsGoodOperand (λ (y : Signed S Tree). AreWell (sign y.sign ∷ within y.operand)) (λ (y : Signed S Tree) g. (sign_well y.sign, member_well level _ y.operand g)) ys hs));
    reads =
        becomes (λ m n. OperandReads x m n × AllByRecursion (λ (y : Signed S Tree). OperandReads y.operand m n) ys) (λ m n. Reads signed_pieces (shape_of (grammar_at level n)) (whole tree)) (λ m n r. read n r.0 r.1)
        (together (OperandReads x) (λ m n. AllByRecursion (λ (y : Signed S Tree). OperandReads y.operand m n) ys) (member_reads level le (part_of_expression x) x h)
        (all_roomy (λ (y : Signed S Tree). OperandReads y.operand) ys (all_into IsGoodOperand (λ (y : Signed S Tree). Roomy (OperandReads y.operand)) (λ (y : Signed S Tree) g. member_reads level le (part_of_expression y.operand) y.operand g) ys hs)));
    bare = λ none. absurd (not_bare level signed_pieces low none);
  }

sum_is : (x : Tree) (ys : List (Signed SumSign Tree))
    → part_of_expression (e.Sum x ys) ≡ record { level = sum_level; pieces = member sum_level (part_of_expression x) ++ flat_map (λ (y : Signed SumSign Tree). sum_sign y.sign ∷ member sum_level (part_of_expression y.operand)) ys }
unfolding part_of_expression
sum_is x ys =
    ap part_of_expression (sym (e.rolls-Sum x ys)) ∙ (fold-roll-Expr Name Part expression_step (Expr-F.Sum x ys)
    ∙ ap (λ (l : List Piece). record { level = sum_level; pieces = member sum_level (part_of_expression x) ++ l })
    (flat_map-map (λ (y : Signed SumSign Part). sum_sign y.sign ∷ member sum_level y.operand) (λ (y : Signed SumSign Tree). record { sign = y.sign; operand = part_of_expression y.operand }) ys))

product_is : (x : Tree) (ys : List (Signed ProductSign Tree))
    → part_of_expression (e.Product x ys) ≡ record { level = product_level; pieces = member product_level (part_of_expression x) ++ flat_map (λ (y : Signed ProductSign Tree). product_sign y.sign ∷ member product_level (part_of_expression y.operand)) ys }
unfolding part_of_expression
product_is x ys =
    ap part_of_expression (sym (e.rolls-Product x ys)) ∙ (fold-roll-Expr Name Part expression_step (Expr-F.Product x ys)
    ∙ ap (λ (l : List Piece). record { level = product_level; pieces = member product_level (part_of_expression x) ++ l })
    (flat_map-map (λ (y : Signed ProductSign Part). product_sign y.sign ∷ member product_level y.operand) (λ (y : Signed ProductSign Tree). record { sign = y.sign; operand = part_of_expression y.operand }) ys))

two_sums : (s : SumSign) → (s ≡ sums.Plus) ⊎ (s ≡ sums.Minus)
two_sums sums.Plus = inl refl
two_sums sums.Minus = inr refl

sums_well : (s : SumSign) → IsWellSpelled (sum_sign s)
sums_well sums.Plus = plus_well
sums_well sums.Minus = minus_well

two_products : (s : ProductSign) → (s ≡ products.Times) ⊎ (s ≡ products.Over)
two_products products.Times = inl refl
two_products products.Over = inr refl

products_well : (s : ProductSign) → IsWellSpelled (product_sign s)
products_well products.Times = star_well
products_well products.Over = slash_well

pub good_sum : (x : Tree) (y : Signed SumSign Tree) (ys : List (Signed SumSign Tree)) → IsGood x → AllByRecursion IsGoodOperand (y ∷ ys) → IsGood (e.Sum x (y ∷ ys))
unfolding differences sum meets same_kind
good_sum x y ys h hs =
    subst (λ (z : Part). IsGoodPart z (e.Sum x (y ∷ ys))) (sym (sum_is x (y ∷ ys)))
    (signed_part sum_sign sums_well sum_level refl (omega arith) (e.Sum x (y ∷ ys)) x (y ∷ ys)
    (λ n r rs. groups_read sums.Plus sums.Minus plus minus (shape_of (product (operand n))) sum_sign (λ e. member sum_level (part_of_expression e)) (λ start. refl) (λ start. refl) two_sums sum_tree x (y ∷ ys) r rs) h hs)

pub good_product : (x : Tree) (y : Signed ProductSign Tree) (ys : List (Signed ProductSign Tree)) → IsGood x → AllByRecursion IsGoodOperand (y ∷ ys) → IsGood (e.Product x (y ∷ ys))
unfolding quotients product meets same_kind
good_product x y ys h hs =
    subst (λ (z : Part). IsGoodPart z (e.Product x (y ∷ ys))) (sym (product_is x (y ∷ ys)))
    (signed_part product_sign products_well product_level refl (omega arith) (e.Product x (y ∷ ys)) x (y ∷ ys)
    (λ n r rs. groups_read products.Times products.Over star slash (shape_of (grammar_at 4 n)) product_sign (λ e. member product_level (part_of_expression e)) (λ start. refl) (λ start. refl) two_products product_tree x (y ∷ ys) r rs) h hs)
