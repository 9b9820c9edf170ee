-- Negations, by the room that is left, and what the test of a parenthesis finds.
use Rattle.std.proofs.Common.{◌≡◌, ◌≢◌, ℕ, zero, suc, ◌+◌, ◌-◌, Bool, true, false, List, [], ◌∷◌, refl, ap, arith}
use Rattle.gp_tokens.specs.declared.token.Token.{Token}
use Rattle.gp_tokens.specs.Grammar.{Grammar}
use Rattle.gp_tokens.specs.SignWants.{open_sign, close_sign}
use Rattle.gp_tokens.specs.Wants.{meets}
use Rattle.gp_expressions.specs.declared.ranged.Ranged.{Ranged}
use Rattle.gp_expressions.specs.Expressions.{Tree}
use Rattle.gp_expressions.specs.Conditions.{negation, negated_in}

pub negation_more : (l : Grammar (Ranged Tree)) (n : ℕ) → n ≢ 0 → negation l n ≡ negated_in l (negation l (n - 1))
unfolding negation
negation_more l zero h = absurd (h refl)
negation_more l (suc n) h = let e : suc n - 1 ≡ n = omega arith in rw e refl
