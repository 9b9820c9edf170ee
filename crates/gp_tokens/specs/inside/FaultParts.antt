-- The parts of the text of a fault.
use Rattle.std.specs.Prelude.{ℕ, List, [], codes, Option, Some, None}
use Rattle.std.specs.Fmt.{decimal}
use Rattle.gp_tokens.specs.declared.fault.LexFault.{LexFault}
use Rattle.gp_tokens.specs.declared.fault.LexFault.TheVariants as faults

abbrev pub kind_text : LexFault → List ℕ
kind_text (faults.BadByte at) = codes "BadByte "
kind_text (faults.OpenString at) = codes "OpenString "
kind_text (faults.OpenComment at) = codes "OpenComment "
kind_text (faults.NumberTooLong at) = codes "NumberTooLong "
kind_text faults.NoMemory = codes "NoMemory"

abbrev pub offset_of : LexFault → Option ℕ
offset_of (faults.BadByte at) = Some at
offset_of (faults.OpenString at) = Some at
offset_of (faults.OpenComment at) = Some at
offset_of (faults.NumberTooLong at) = Some at
offset_of faults.NoMemory = None

abbrev pub offset_text : Option ℕ → List ℕ
offset_text (Some at) = decimal at
offset_text None = []
