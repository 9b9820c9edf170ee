-- Each form of expression is read again where its parts are.
use Rattle.std.proofs.Common.{◌≡◌, ℕ, suc, ◌<◌, ◌≤◌, ◌^◌, ℤ, pos, negsuc, Bool, true, false, List, [], ◌∷◌, refl, sym, ap, subst, ◌∙◌, arith, leb-false, le_of_lt}
use Rattle.std.specs.Prelude.{nat_le, nat_lt, ◌||◌}
use Rattle.gp_tokens.specs.declared.keyword.Keyword.TheVariants as words
use Rattle.gp_tokens.specs.Kinds.{same_kind}
use Rattle.gp_values.specs.Names.{Name}
use Rattle.gp_values.specs.Texts.{IsText}
use Rattle.gp_tokens.specs.declared.want.Want.TheVariants as wants
use Rattle.gp_tokens.specs.Wants.{meets}
use Rattle.gp_tokens.specs.Grammar.{shape_of}
use Rattle.gp_tokens.specs.Shape.{second_of}
use Rattle.gp_tokens.specs.SignWants.{minus, empty}
use Rattle.gp_syntax.specs.declared.expression.Expr.TheVariants as e
use Rattle.gp_syntax.specs.declared.expression.Expr.TheOpen.{Expr-F}
use Rattle.gp_syntax.specs.declared.expression.Expr.TheFolds.{fold-roll-Expr}
use Rattle.gp_expressions.specs.Ranges.{whole}
use Rattle.gp_expressions.specs.Expressions.{Tree, negated, unary, leaf, nested, operand, list, variable, text, empty_list}
use Rattle.gp_fmt.specs.declared.piece.Piece.{Piece}
use Rattle.gp_fmt.specs.declared.piece.Piece.TheVariants as p
use Rattle.gp_fmt.specs.Expressions.{Part, in_parentheses, in_parentheses_if, member, alone, numeral, applied, is_numeral, chain, sum_sign, product_sign, signed_chain, minus_level, sum_level, product_level, dot_level, join_level, expression_step, part_of_expression}
use Rattle.gp_fmt.specs.Expressions as printed
use Rattle.gp_fmt.specs.inside.Spelled.{IsWellSpelled}
use Rattle.gp_fmt.proofs.Parse.Printed.{Reads, Anything, some, made_into, made_reads, one_reads, other_reads, behind_takes, sign_takes}
use Rattle.gp_fmt.proofs.Parse.Names.{IsNamed, name_reads}
use Rattle.gp_fmt.proofs.Parse.Rooms.{Roomy, anywhere, becomes, deeper}
use Rattle.gp_fmt.proofs.Parse.Levels.{grammar_at, at_looser}
use Rattle.gp_fmt.proofs.Parse.Spelling.{AreWell, enclosed_if_well, open_well, close_well}
use Rattle.gp_fmt.proofs.Parse.Leaves.{positive_reads, negative_reads, string_reads, text_well, applied_reads, enclosed_reads}

-- the pieces are well spelled, and read again as the tree: at the level of the part, and as an operand
pub record IsGoodPart (x : Part) (e : Tree) : Type 0 where
  pub well : AreWell x.pieces
  pub reads : Roomy (λ m n. Reads x.pieces (shape_of (grammar_at x.level n)) (whole e))
  pub bare : (nat_lt x.level minus_level || is_numeral x.pieces) ≡ false → Roomy (λ m n. Reads x.pieces (shape_of (operand n)) (whole e))

abbrev pub IsGood : Tree → Type 0
IsGood e = IsGoodPart (part_of_expression e) e

good_by : (x : Part) (e : Tree) → part_of_expression e ≡ x → IsGoodPart x e → IsGood e
good_by x e same h = subst (λ (x : Part). IsGoodPart x e) (sym same) h

-- ---- leaves

unary_of : (ps : List Piece) (n : ℕ) (e : Tree) → Reads ps (shape_of (operand n)) (whole e) → Reads ps (shape_of (unary (operand n))) (whole e)
unfolding unary
unary_of ps n e h = other_reads _ _ _ _ h

operand_of_leaf : (ps : List Piece) (n : ℕ) (e : Tree) → Reads ps (shape_of leaf) (whole e) → Reads ps (shape_of (operand (suc n))) (whole e)
unfolding operand nested
operand_of_leaf ps n e h = other_reads _ _ _ _ (other_reads _ _ _ _ h)

leaf_part : (ps : List Piece) (e : Tree) → AreWell ps → Reads ps (shape_of leaf) (whole e) → IsGoodPart (alone ps) e
leaf_part ps e w h = record {
  well = w;
  reads = deeper (λ m n. Unit {0}) (λ m n. Reads ps (shape_of (unary (operand n))) (whole e)) (λ m n _. unary_of ps (suc n) e (operand_of_leaf ps n e h)) (anywhere _ (λ m n. tt));
  bare = λ _. deeper (λ m n. Unit {0}) (λ m n. Reads ps (shape_of (operand n)) (whole e)) (λ m n _. operand_of_leaf ps n e h) (anywhere _ (λ m n. tt));
}

pub good_text : (cs : List ℕ) → IsText cs → IsGood (e.Text cs)
unfolding leaf part_of_expression
good_text cs h =
    good_by (alone (p.String cs ∷ [])) (e.Text cs) (ap part_of_expression (sym (e.rolls-Text cs)) ∙ fold-roll-Expr Name Part expression_step (Expr-F.Text cs))
    (leaf_part (p.String cs ∷ []) (e.Text cs) (text_well cs h, tt) (one_reads _ _ _ _ (made_reads _ text _ cs (string_reads cs h))))

pub good_variable : (n : Name) → IsNamed wants.Variable n → IsGood (e.Variable n)
unfolding leaf part_of_expression
good_variable n h =
    good_by (alone (p.Name n ∷ [])) (e.Variable n) (ap part_of_expression (sym (e.rolls-Variable n)) ∙ fold-roll-Expr Name Part expression_step (Expr-F.Variable n))
    (leaf_part (p.Name n ∷ []) (e.Variable n) (h.word, tt) (other_reads _ _ _ _ (one_reads _ _ _ _ (made_reads _ variable _ n (name_reads wants.Variable n h)))))

pub good_empty : IsGood e.Empty
unfolding leaf part_of_expression meets same_kind
good_empty =
    good_by (alone (p.Word words.Empty ∷ [])) e.Empty (ap part_of_expression (sym e.rolls-Empty) ∙ fold-roll-Expr Name Part expression_step Expr-F.Empty)
    (leaf_part (p.Word words.Empty ∷ []) e.Empty (tt, tt)
    (other_reads _ _ _ _ (other_reads _ _ _ _ (one_reads _ _ _ _ (made_into _ empty_list _ Anything (whole e.Empty) (λ x _. refl) (sign_takes (p.Word words.Empty) empty (λ start. refl)))))))

applied_well : (n : Name) → IsWellSpelled (p.Name n) → AreWell (in_parentheses (p.Name n ∷ []))
applied_well n h = (open_well, (h, (close_well, tt)))

pub good_indegree : (n : Name) → IsNamed wants.Item n → IsGood (e.InDegree n)
unfolding leaf part_of_expression meets same_kind
good_indegree n h =
    good_by (applied words.Indegree n) (e.InDegree n) (ap part_of_expression (sym (e.rolls-InDegree n)) ∙ fold-roll-Expr Name Part expression_step (Expr-F.InDegree n))
    (leaf_part _ (e.InDegree n) (tt, applied_well n h.word)
    (other_reads _ _ _ _ (other_reads _ _ _ _ (other_reads _ _ _ _ (one_reads _ _ _ _ (applied_reads words.Indegree wants.Item e.InDegree n (λ start. refl) h))))))

pub good_outdegree : (n : Name) → IsNamed wants.Item n → IsGood (e.OutDegree n)
unfolding leaf part_of_expression meets same_kind
good_outdegree n h =
    good_by (applied words.Outdegree n) (e.OutDegree n) (ap part_of_expression (sym (e.rolls-OutDegree n)) ∙ fold-roll-Expr Name Part expression_step (Expr-F.OutDegree n))
    (leaf_part _ (e.OutDegree n) (tt, applied_well n h.word)
    (other_reads _ _ _ _ (other_reads _ _ _ _ (other_reads _ _ _ _ (other_reads _ _ _ _ (one_reads _ _ _ _ (applied_reads words.Outdegree wants.Item e.OutDegree n (λ start. refl) h)))))))

pub good_length : (n : Name) → IsNamed wants.Variable n → IsGood (e.Length n)
unfolding leaf part_of_expression meets same_kind
good_length n h =
    good_by (applied words.Length n) (e.Length n) (ap part_of_expression (sym (e.rolls-Length n)) ∙ fold-roll-Expr Name Part expression_step (Expr-F.Length n))
    (leaf_part _ (e.Length n) (tt, applied_well n h.word)
    (other_reads _ _ _ _ (other_reads _ _ _ _ (other_reads _ _ _ _ (other_reads _ _ _ _ (other_reads _ _ _ _ (applied_reads words.Length wants.Variable e.Length n (λ start. refl) h)))))))

-- ---- numerals

number_is : (z : ℤ) → part_of_expression (e.Number z) ≡ alone (numeral z)
unfolding part_of_expression
number_is z = ap part_of_expression (sym (e.rolls-Number z)) ∙ fold-roll-Expr Name Part expression_step (Expr-F.Number z)

pub good_positive : (v : ℕ) → v < 2 ^ 127 → IsGood (e.Number (pos v))
unfolding unary
good_positive v h = good_by (alone (p.Number v ∷ [])) (e.Number (pos v)) (number_is (pos v)) (record {
  well = (le_of_lt h, tt);
  reads = anywhere _ (λ m n. one_reads _ _ _ _ (positive_reads v h));
  bare = λ none. absurd cc;
})

minus_numeral : (v n : ℕ) → suc v ≤ 2 ^ 127 → Reads (p.Negation ∷ p.Number (suc v) ∷ []) (shape_of (operand (suc n))) (whole (e.Number (negsuc v)))
unfolding operand nested meets same_kind
minus_numeral v n h =
    one_reads _ _ _ _ (made_into _ second_of _ (λ x. x.1 ≡ whole (e.Number (negsuc v))) _ (λ x j. j)
    (behind_takes p.Negation (p.Number (suc v) ∷ []) minus _ (λ x. x ≡ whole (e.Number (negsuc v))) (λ start. refl) (some _ _ _ (one_reads _ _ _ _ (negative_reads v h)))))

pub good_negative : (v : ℕ) → suc v ≤ 2 ^ 127 → IsGood (e.Number (negsuc v))
good_negative v h = good_by (alone (p.Negation ∷ p.Number (suc v) ∷ [])) (e.Number (negsuc v)) (number_is (negsuc v)) (record {
  well = (tt, (h, tt));
  reads = deeper (λ m n. Unit {0}) (λ m n. Reads (p.Negation ∷ p.Number (suc v) ∷ []) (shape_of (unary (operand n))) (whole (e.Number (negsuc v)))) (λ m n _. unary_of _ (suc n) _ (minus_numeral v n h)) (anywhere _ (λ m n. tt));
  bare = λ _. deeper (λ m n. Unit {0}) (λ m n. Reads (p.Negation ∷ p.Number (suc v) ∷ []) (shape_of (operand n)) (whole (e.Number (negsuc v)))) (λ m n _. minus_numeral v n h) (anywhere _ (λ m n. tt));
})

-- ---- parts in parentheses

pub as_list : (x : Part) (e : Tree) (n : ℕ) → Reads x.pieces (shape_of (grammar_at x.level n)) (whole e) → Reads x.pieces (shape_of (list n)) (whole e)
as_list x e n h ts rest q = at_looser n ts rest e x.level 0 (omega arith) (h ts rest q)

enclosed_operand : (x : Part) (e : Tree) → IsGoodPart x e → Roomy (λ m n. Reads (in_parentheses x.pieces) (shape_of (operand n)) (whole e))
enclosed_operand x e h =
    deeper (λ m n. Reads x.pieces (shape_of (grammar_at x.level n)) (whole e)) (λ m n. Reads (in_parentheses x.pieces) (shape_of (operand n)) (whole e))
    (λ m n r. enclosed_reads x.pieces n e (as_list x e n r)) h.reads

pub member_reads : (level : ℕ) → level ≤ 3 → (x : Part) (e : Tree) → IsGoodPart x e → Roomy (λ m n. Reads (member level x) (shape_of (grammar_at (suc level) n)) (whole e))
member_reads level le x e h = go (nat_le x.level level) refl
  where
    go : (b : Bool) → nat_le x.level level ≡ b → Roomy (λ m n. Reads (in_parentheses_if b x.pieces) (shape_of (grammar_at (suc level) n)) (whole e))
    go true _ =
        becomes (λ m n. Reads (in_parentheses x.pieces) (shape_of (operand n)) (whole e)) _
        (λ m n r ts rest q. at_looser n ts rest e 4 (suc level) (omega arith) (unary_of (in_parentheses x.pieces) n e r ts rest q)) (enclosed_operand x e h)
    go false same =
        let above : level < x.level = leb-false x.level level same in
        becomes (λ m n. Reads x.pieces (shape_of (grammar_at x.level n)) (whole e)) _ (λ m n r ts rest q. at_looser n ts rest e x.level (suc level) above (r ts rest q)) h.reads

pub member_well : (level : ℕ) (x : Part) (e : Tree) → IsGoodPart x e → AreWell (member level x)
member_well level x e h = enclosed_if_well (nat_le x.level level) x.pieces h.well

-- ---- a minus before one operand

under_minus : (x : Part) (e : Tree) → IsGoodPart x e → Roomy (λ m n. Reads (in_parentheses_if (nat_lt x.level minus_level || is_numeral x.pieces) x.pieces) (shape_of (operand n)) (whole e))
under_minus x e h = go (nat_lt x.level minus_level || is_numeral x.pieces) refl
  where
    go : (b : Bool) → (nat_lt x.level minus_level || is_numeral x.pieces) ≡ b → Roomy (λ m n. Reads (in_parentheses_if b x.pieces) (shape_of (operand n)) (whole e))
    go true _ = enclosed_operand x e h
    go false same = h.bare same

minus_reads : (ps : List Piece) (n : ℕ) (d : Tree) → Reads ps (shape_of (operand n)) (whole d) → Reads (p.Negation ∷ ps) (shape_of (operand (suc n))) (whole (e.Negated d))
unfolding operand nested meets same_kind
minus_reads ps n d h =
    one_reads _ _ _ _ (made_into _ second_of _ (λ x. x.1 ≡ whole (e.Negated d)) _ (λ x j. j)
    (behind_takes p.Negation ps minus _ (λ x. x ≡ whole (e.Negated d)) (λ start. refl) (some _ _ _ (other_reads _ _ _ _ (made_reads _ negated _ (whole d) h)))))

negated_part : (x : Part) (d : Tree) → IsGoodPart x d → IsGoodPart (printed.negated x) (e.Negated d)
negated_part x d h = record {
  well = (tt, enclosed_if_well (nat_lt x.level minus_level || is_numeral x.pieces) x.pieces h.well);
  reads = deeper (λ m n. Reads below (shape_of (operand n)) (whole d)) (λ m n. Reads (p.Negation ∷ below) (shape_of (unary (operand n))) (whole (e.Negated d))) (λ m n r. unary_of _ (suc n) _ (minus_reads below n d r)) (under_minus x d h);
  bare = λ _. deeper (λ m n. Reads below (shape_of (operand n)) (whole d)) (λ m n. Reads (p.Negation ∷ below) (shape_of (operand n)) (whole (e.Negated d))) (λ m n r. minus_reads below n d r) (under_minus x d h);
}
  where
    below : List Piece
    below = in_parentheses_if (nat_lt x.level minus_level || is_numeral x.pieces) x.pieces

pub good_negated : (d : Tree) → IsGood d → IsGood (e.Negated d)
unfolding part_of_expression
good_negated d h =
    good_by (printed.negated (part_of_expression d)) (e.Negated d) (ap part_of_expression (sym (e.rolls-Negated d)) ∙ fold-roll-Expr Name Part expression_step (Expr-F.Negated d))
    (negated_part (part_of_expression d) d h)
