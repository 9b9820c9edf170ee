-- Numerals, by their signs.
use Rattle.std.proofs.Common.{◌≡◌, ℕ, ℤ, pos, negsuc, Bool, true, false, [], ◌∷◌, refl, sym, ◌∙◌, int_le, unsigned_abs, true≢false}
use lib.Dec.{leb-zero}
use Rattle.std.specs.Prelude.{◌||◌, nat_lt}
use Rattle.gp_fmt.specs.declared.piece.Piece.TheVariants as p
use Rattle.gp_fmt.specs.Expressions.{Part, numeral, minus_level, is_numeral}

from_zero : (n : ℕ) → int_le (pos 0) (pos n) ≡ true
from_zero n = leb-zero n

pub numeral_below : (z : ℤ) → int_le (pos 0) z ≡ false → p.Negation ∷ p.Number (unsigned_abs z) ∷ [] ≡ numeral z
numeral_below (pos n) e = absurd (true≢false (sym (from_zero n) ∙ e))
numeral_below (negsuc n) e = refl

pub numeral_above : (z : ℤ) → int_le (pos 0) z ≡ true → p.Number (unsigned_abs z) ∷ [] ≡ numeral z
numeral_above (pos n) e = refl
numeral_above (negsuc n) e = absurd (true≢false (sym e))

pub is_without_minus : (z : ℤ) → int_le (pos 0) z ≡ is_numeral (numeral z)
is_without_minus (pos n) = from_zero n
is_without_minus (negsuc n) = refl

-- whether an operand of a minus stands in parentheses
abbrev pub needs : Part → Bool
needs x = nat_lt x.level minus_level || is_numeral x.pieces
