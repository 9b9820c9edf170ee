-- The text of a fault is that of its kind, and behind it that of its offset.
use Rattle.std.proofs.Common.{◌≡◌, ◌++◌, refl}
use Rattle.gp_tokens.specs.declared.fault.LexFault.{LexFault}
use Rattle.gp_tokens.specs.declared.fault.LexFault.TheVariants as faults
use Rattle.gp_tokens.specs.FaultText.{lex_text}
use Rattle.gp_tokens.specs.inside.FaultParts.{kind_text, offset_of, offset_text}

pub lex_text_is : (e : LexFault) → lex_text e ≡ kind_text e ++ offset_text (offset_of e)
lex_text_is (faults.BadByte at) = refl
lex_text_is (faults.OpenString at) = refl
lex_text_is (faults.OpenComment at) = refl
lex_text_is (faults.NumberTooLong at) = refl
lex_text_is faults.NoMemory = refl
