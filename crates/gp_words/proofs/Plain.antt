-- A part of a test that passes.
use Rattle.std.proofs.Common.{◌≡◌, ◌&&◌, Bool, true, false, not, refl}

-- the third of a chain, which is denied
pub third_denied : (a b c rest : Bool) → (a && (not b && (not c && rest))) ≡ true → c ≡ false
third_denied true false false rest e = refl
third_denied true false true rest e = absurd cc
third_denied true true c rest e = absurd cc
third_denied false b c rest e = absurd cc
