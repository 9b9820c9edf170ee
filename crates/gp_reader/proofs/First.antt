-- The first fault of the rules of a text.
use Rattle.std.proofs.Common.{◌≡◌, List, [], ◌∷◌, Option, Some, None, refl}
use Rattle.std.specs.Prelude.{option_map}
use Rattle.std.specs.Option.{option_or}
use Rattle.gp_values.specs.Names.{Name}
use Rattle.gp_syntax.specs.Declaration.{Declaration}
use Rattle.gp_syntax.specs.Fault.{Fault, fault_of}
use Rattle.gp_syntax.specs.Fault as meant
use Rattle.gp_check.specs.declared.fault.RuleFault.{RuleFault}
use Rattle.gp_check.specs.declared.fault.RuleFault.TheVariants as rule_faults
use Rattle.gp_check.specs.Answer.{Refuses}
use Rattle.gp_reader.specs.Program.{first_faulty}
use Rattle.gp_reader.specs.inside.Stages.{rule_fault, RefusesRules}

-- what the first fault of declarations is where the first has this fault, or none
abbrev found_first : Declaration → Option Fault → Option (Name × Fault) → Option (Name × Fault)
found_first d fault later = option_or (option_map (λ f. (d.name, f)) fault) later

first_of : (d : Declaration) (fault : Option Fault) (f : Fault) → fault ≡ Some f → found_first d fault None ≡ Some (d.name, f)
first_of d fault f h = rw h refl

-- one declaration alone
pub refused_one : (d : Declaration) (e : RuleFault) → Refuses e (fault_of d) → RefusesRules (d ∷ []) (rule_fault d.name e)
refused_one d rule_faults.TooLarge h = record { fault = meant.TooLarge; first = first_of d (fault_of d) _ h; told = refl; known = λ e. cc }
refused_one d (rule_faults.TwiceDeclared n) h = record { fault = meant.TwiceDeclared n; first = first_of d (fault_of d) _ h; told = refl; known = λ e. cc }
refused_one d (rule_faults.UnknownNode n) h = record { fault = meant.UnknownNode n; first = first_of d (fault_of d) _ h; told = refl; known = λ e. cc }
refused_one d (rule_faults.BadInterface n) h = record { fault = meant.BadInterface n; first = first_of d (fault_of d) _ h; told = refl; known = λ e. cc }
refused_one d (rule_faults.Unbound n) h = record { fault = meant.Unbound n; first = first_of d (fault_of d) _ h; told = refl; known = λ e. cc }
refused_one d rule_faults.BadType h = record { fault = meant.BadType; first = first_of d (fault_of d) _ h; told = refl; known = λ e. cc }
refused_one d rule_faults.NotSimple h = record { fault = meant.NotSimple; first = first_of d (fault_of d) _ h; told = refl; known = λ e. cc }
refused_one d rule_faults.BadMark h = record { fault = meant.BadMark; first = first_of d (fault_of d) _ h; told = refl; known = λ e. cc }
refused_one d (rule_faults.BadBidi n) h = record { fault = meant.BadBidi n; first = first_of d (fault_of d) _ h; told = refl; known = λ e. cc }
refused_one d rule_faults.NoMemory h = tt

more_behind : (d : Declaration) (fault : Option Fault) (later : Option (Name × Fault)) (x : Name × Fault) → found_first d fault None ≡ Some x → found_first d fault later ≡ Some x
more_behind d None later x h = absurd cc
more_behind d (Some f) later x h = h

-- it has none
pub passed : (d : Declaration) (rest : List Declaration) → fault_of d ≡ None → first_faulty rest ≡ first_faulty (d ∷ rest)
passed d rest h = rw h refl
