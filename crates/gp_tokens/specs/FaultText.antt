-- The text that tells why a text has no tokens.
use Rattle.std.specs.Prelude.{ℕ, List, ◌++◌, codes}
use Rattle.std.specs.Fmt.{decimal}
use Rattle.gp_tokens.specs.declared.fault.LexFault.{LexFault}
use Rattle.gp_tokens.specs.declared.fault.LexFault.TheVariants as faults

-- the kind of the fault, and its offset
abbrev pub lex_text : LexFault → List ℕ
lex_text (faults.BadByte at) = codes "BadByte " ++ decimal at
lex_text (faults.OpenString at) = codes "OpenString " ++ decimal at
lex_text (faults.OpenComment at) = codes "OpenComment " ++ decimal at
lex_text (faults.NumberTooLong at) = codes "NumberTooLong " ++ decimal at
lex_text faults.NoMemory = codes "NoMemory"
