-- The line that names why a program is refused: `program: `, the fault, and a line feed.
use Rattle.std.specs.Prelude.{ℕ, List, ◌++◌, codes}
use Rattle.std.specs.Fmt.{decimal}
use Rattle.gp_tokens.specs.FaultText.{lex_text}
use Rattle.gp_scope.specs.declared.fault.ScopeFault.{ScopeFault}
use Rattle.gp_scope.specs.declared.fault.ScopeFault.TheVariants as scope_faults
use Rattle.gp_check.specs.declared.fault.RuleFault.{RuleFault}
use Rattle.gp_check.specs.declared.fault.RuleFault.TheVariants as rule_faults
use Rattle.gp_reader.specs.declared.fault.ProgramFault.{ProgramFault}
use Rattle.gp_reader.specs.declared.fault.ProgramFault.TheVariants as faults

-- what is wrong with names and calls
abbrev pub scope_text : ScopeFault → List ℕ
scope_text scope_faults.NoMain = codes "NoMain"
scope_text scope_faults.TwoMains = codes "TwoMains"
scope_text (scope_faults.TwoRules name) = codes "TwoRules " ++ name
scope_text (scope_faults.Unknown name) = codes "Unknown " ++ name
scope_text (scope_faults.Recursive name) = codes "Recursive " ++ name
scope_text (scope_faults.DeepCalls name) = codes "DeepCalls " ++ name
scope_text scope_faults.StrayBreak = codes "StrayBreak"
scope_text scope_faults.NoMemory = codes "NoMemory"

-- which static clause a rule breaks
abbrev pub rule_text : RuleFault → List ℕ
rule_text rule_faults.TooLarge = codes "TooLarge"
rule_text (rule_faults.TwiceDeclared name) = codes "TwiceDeclared " ++ name
rule_text (rule_faults.UnknownNode name) = codes "UnknownNode " ++ name
rule_text (rule_faults.BadInterface name) = codes "BadInterface " ++ name
rule_text (rule_faults.Unbound name) = codes "Unbound " ++ name
rule_text rule_faults.BadType = codes "BadType"
rule_text rule_faults.NotSimple = codes "NotSimple"
rule_text rule_faults.BadMark = codes "BadMark"
rule_text (rule_faults.BadBidi name) = codes "BadBidi " ++ name
rule_text rule_faults.NoMemory = codes "NoMemory"

abbrev pub fault_text : ProgramFault → List ℕ
fault_text (faults.Lex fault) = lex_text fault
fault_text (faults.TooDeep line) = codes "TooDeep line " ++ decimal line
fault_text (faults.Syntax line) = codes "Syntax line " ++ decimal line
fault_text (faults.NumberRange line) = codes "NumberRange line " ++ decimal line
fault_text (faults.Scope fault) = scope_text fault
fault_text (faults.Rule name fault) = codes "rule " ++ name ++ codes ": " ++ rule_text fault
fault_text faults.NoMemory = codes "NoMemory"

abbrev pub line_of : ProgramFault → List ℕ
line_of fault = codes "program: " ++ fault_text fault ++ codes "\n"
