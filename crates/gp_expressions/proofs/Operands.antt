-- Operands, by the room that is left.
use Rattle.std.proofs.Common.{◌≡◌, ◌≢◌, ℕ, zero, suc, ◌-◌, refl, ap, arith}
use Rattle.gp_expressions.specs.Expressions.{operand, nested}

pub operand_more : (n : ℕ) → n ≢ 0 → operand n ≡ nested (operand (n - 1))
unfolding operand
operand_more zero h = absurd (h refl)
operand_more (suc n) h = let e : suc n - 1 ≡ n = omega arith in rw e refl
