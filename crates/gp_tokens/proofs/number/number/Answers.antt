use Rattle.std.proofs.Common.{◌^◌, arith, refl}
use Rattle.gp_tokens.specs.Numbers as spec
use Rattle.gp_tokens.proofs.Values.{is_past}
use Rattle.gp_tokens.proofs.number.number.Goals as goal

pub returns-then-digit-value : goal.returns-then-digit-value
returns-then-digit-value c =
    let past = is_past (2 ^ 127) c.loop-byte.value c.loop-byte.byte-index c.args.digits.now (spec.number_from 0 c.args.digits.now) c.loop-byte-test.true (omega (arith, c.type_inv.digits c.loop-byte.byte-index)) (rw (← c.saturating_sub-digit.ensures) c.if-digit-value.true) c.loop-byte.invariant.0 in
    rw past refl
