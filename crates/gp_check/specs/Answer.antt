-- What the answer of a check says of the first fault of a declaration.
use Rattle.std.specs.Prelude.{◌≡◌, Option, Some, None, Result, Ok, Err}
use Rattle.gp_memory.specs.Free.{Free}
use Rattle.gp_syntax.specs.Fault.{Fault}
use Rattle.gp_syntax.specs.Fault as meant
use Rattle.gp_check.specs.declared.fault.RuleFault.{RuleFault}
use Rattle.gp_check.specs.declared.fault.RuleFault.TheVariants as faults

-- this is the fault, with its name; want of memory may come at any declaration
abbrev pub Refuses : RuleFault → Option Fault → Type 0
Refuses faults.TooLarge fault = fault ≡ Some meant.TooLarge
Refuses (faults.TwiceDeclared n) fault = fault ≡ Some (meant.TwiceDeclared n)
Refuses (faults.UnknownNode n) fault = fault ≡ Some (meant.UnknownNode n)
Refuses (faults.BadInterface n) fault = fault ≡ Some (meant.BadInterface n)
Refuses (faults.Unbound n) fault = fault ≡ Some (meant.Unbound n)
Refuses faults.BadType fault = fault ≡ Some meant.BadType
Refuses faults.NotSimple fault = fault ≡ Some meant.NotSimple
Refuses faults.BadMark fault = fault ≡ Some meant.BadMark
Refuses (faults.BadBidi n) fault = fault ≡ Some (meant.BadBidi n)
Refuses faults.NoMemory fault = Free

-- whether there is a fault, and which
abbrev pub Checks : {X : Type 0} → Result X RuleFault → Option Fault → Type 0
Checks (Ok x) fault = fault ≡ None
Checks (Err e) fault = Refuses e fault
