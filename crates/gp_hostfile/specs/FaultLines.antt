-- The line that names why a host is refused: `host: `, the fault, and a line feed.
use Rattle.std.specs.Prelude.{ℕ, List, ◌++◌, codes}
use Rattle.std.specs.Fmt.{decimal}
use Rattle.gp_tokens.specs.FaultText.{lex_text}
use Rattle.gp_hostfile.specs.declared.fault.HostFault.{HostFault}
use Rattle.gp_hostfile.specs.declared.fault.HostFault.TheVariants as faults

-- the kind of a fault, and its line, its offset or its name
abbrev pub fault_text : HostFault → List ℕ
fault_text (faults.Lex fault) = lex_text fault
fault_text (faults.Syntax line) = codes "Syntax line " ++ decimal line
fault_text (faults.NumberRange at) = codes "NumberRange " ++ decimal at
fault_text (faults.TwoNodes name) = codes "TwoNodes " ++ name
fault_text (faults.TwoEdges name) = codes "TwoEdges " ++ name
fault_text (faults.NoSuchEnd name) = codes "NoSuchEnd " ++ name
fault_text (faults.WrongMark name) = codes "WrongMark " ++ name
fault_text faults.NoMemory = codes "NoMemory"

abbrev pub line_of : HostFault → List ℕ
line_of fault = codes "host: " ++ fault_text fault ++ codes "\n"
