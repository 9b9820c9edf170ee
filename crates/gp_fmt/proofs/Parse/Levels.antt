-- The grammar at each level: what binds tighter is also looser.
use Rattle.std.proofs.Common.{◌≡◌, ℕ, zero, suc, ◌+◌, ◌-◌, ◌≤◌, List, [], ◌∷◌, refl, subst, arith}
use Rattle.gp_tokens.specs.declared.token.Token.{Token}
use Rattle.gp_tokens.specs.Grammar.{Grammar, shape_of}
use Rattle.gp_tokens.specs.SignWants.{slash, star, plus, minus, dot, colon}
use Rattle.gp_syntax.specs.declared.expression.SumSign.TheVariants as sums
use Rattle.gp_syntax.specs.declared.expression.ProductSign.TheVariants as products
use Rattle.gp_expressions.specs.declared.ranged.Ranged.{Ranged}
use Rattle.gp_expressions.specs.Ranges.{whole, first_past, joined}
use Rattle.gp_expressions.specs.Expressions.{Tree, signed_by, unary, quotients, product, differences, sum, dots, joins, operand}
use Rattle.gp_fmt.proofs.Parse.Chains.{one_alone}

abbrev pub grammar_at : ℕ → ℕ → Grammar (Ranged Tree)
grammar_at zero n = joins (operand n)
grammar_at (suc zero) n = dots (operand n)
grammar_at (suc (suc zero)) n = sum (operand n)
grammar_at (suc (suc (suc zero))) n = product (operand n)
grammar_at _ n = unary (operand n)

module _ (o : Grammar (Ranged Tree)) (ts rest : List Token) (e : Tree) where
  product_of : shape_of (unary o) ts rest (whole e) → shape_of (product o) ts rest (whole e)
  unfolding quotients product first_past joined
  product_of h =
      let one : shape_of (quotients o) ts rest (whole (record { sign = products.Times; operand = e } ∷ [])) =
      record { of = signed_by products.Over (whole e) ∷ []; shape = one_alone slash _ ts rest _ (record { of = whole e; shape = h; made = refl }); made = refl } in
      record { of = whole (record { sign = products.Times; operand = e } ∷ []) ∷ []; shape = one_alone star _ ts rest _ one; made = refl }

  sum_of : shape_of (product o) ts rest (whole e) → shape_of (sum o) ts rest (whole e)
  unfolding differences sum first_past joined
  sum_of h =
      let one : shape_of (differences o) ts rest (whole (record { sign = sums.Plus; operand = e } ∷ [])) =
      record { of = signed_by sums.Minus (whole e) ∷ []; shape = one_alone minus _ ts rest _ (record { of = whole e; shape = h; made = refl }); made = refl } in
      record { of = whole (record { sign = sums.Plus; operand = e } ∷ []) ∷ []; shape = one_alone plus _ ts rest _ one; made = refl }

  dots_of : shape_of (sum o) ts rest (whole e) → shape_of (dots o) ts rest (whole e)
  unfolding dots
  dots_of h = record { of = whole e ∷ []; shape = one_alone dot _ ts rest _ h; made = refl }

  joins_of : shape_of (dots o) ts rest (whole e) → shape_of (joins o) ts rest (whole e)
  unfolding joins
  joins_of h = record { of = whole e ∷ []; shape = one_alone colon _ ts rest _ h; made = refl }

-- what holds at a level, holds at each looser one
pub descend : (S : ℕ → Type 0) → ((level : ℕ) → S (suc level) → S level) → (level other : ℕ) → other ≤ level → S level → S other
descend S step level other le h =
    let same : level ≡ (level - other) + other = omega arith in
    down (level - other) other (subst S same h)
  where
    down : (by level : ℕ) → S (by + level) → S level
    down zero level h = subst S (omega arith) h
    down (suc by) level h =
        let same : suc by + level ≡ suc (by + level) = omega arith in
        down by level (step (by + level) (subst S same h))

module _ (n : ℕ) (ts rest : List Token) (e : Tree) where
  looser : (level : ℕ) → shape_of (grammar_at (suc level) n) ts rest (whole e) → shape_of (grammar_at level n) ts rest (whole e)
  looser zero h = joins_of (operand n) ts rest e h
  looser (suc zero) h = dots_of (operand n) ts rest e h
  looser (suc (suc zero)) h = sum_of (operand n) ts rest e h
  looser (suc (suc (suc zero))) h = product_of (operand n) ts rest e h
  looser (suc (suc (suc (suc level)))) h = h

  pub at_looser : (level other : ℕ) → other ≤ level → shape_of (grammar_at level n) ts rest (whole e) → shape_of (grammar_at other n) ts rest (whole e)
  at_looser level other le h = descend (λ l. shape_of (grammar_at l n) ts rest (whole e)) looser level other le h
