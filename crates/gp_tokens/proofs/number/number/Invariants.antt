use Rattle.std.proofs.Common.{◌≡◌, ◌≤◌, ◌^◌, drop}
use Rattle.gp_tokens.specs.Numbers.{number_from}
use Rattle.gp_tokens.proofs.number.number.Given as goal

abbrev pub invariant-loop-byte : goal.invariant-loop-byte
invariant-loop-byte l = (number_from l.value (drop l.byte-index l.digits) ≡ number_from 0 l.digits) × (l.value ≤ 2 ^ 127)
