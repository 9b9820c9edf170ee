-- Commands and declarations, by the room that is left.
use Rattle.std.proofs.Common.{◌≡◌, ◌≢◌, ℕ, zero, suc, ◌-◌, refl, arith}
use Rattle.gp_program.specs.Commands.{simple, simple_in, sequence}
use Rattle.gp_program.specs.Programs.{declarations, declarations_in}

pub simple_more : (n : ℕ) → n ≢ 0 → simple n ≡ simple_in (sequence (simple (n - 1)))
unfolding simple
simple_more zero h = absurd (h refl)
simple_more (suc n) h = let e : suc n - 1 ≡ n = omega arith in rw e refl

pub declarations_more : (room n : ℕ) → n ≢ 0 → declarations room n ≡ declarations_in room (declarations room (n - 1))
unfolding declarations
declarations_more room zero h = absurd (h refl)
declarations_more room (suc n) h = let e : suc n - 1 ≡ n = omega arith in rw e refl
