-- What holds of faults, whoever tells them; and of names, whoever puts numbers in their place.
use Rattle.std.specs.Prelude.{◌≡◌, List, map, length, None}
use Rattle.gp_values.specs.Names.{Name}
use Rattle.gp_syntax.specs.declared.tree.RuleDecl.{RuleDecl}
use Rattle.gp_syntax.specs.Rule.{Rule}
use Rattle.gp_syntax.specs.Scoped.{IsScoped}
use Rattle.gp_scope.specs.Outline.{Outline, rules_in}
use Rattle.gp_scope.specs.Names.{Body, meaning_in, all_bodies}
use Rattle.gp_scope.specs.Resolved.{program_with}
use Rattle.gp_scope.specs.Fault.{Fault, fault_of_names, IsFault}
use Rattle.gp_reader.specs.Resolution.{IsFaultless}
use Rattle.gp_reader.specs.Places.{Place, front, meant_by, rules_at, Placed, procedures_of, IsNumbered, EachTo, CallsAsTextDoes}

-- A text has no more than one fault.
abbrev pub OneFault : Type 0
OneFault = (os : Outline) (x y : Fault) → IsFault os x → IsFault os y → x ≡ y

-- Without a fault, a text stands for a program, whatever rules its declarations are.
abbrev pub FaultlessTextsArePrograms : Type 0
FaultlessTextsArePrograms = (os : Outline) (rules : List Rule) → IsFaultless os → length rules ≡ length (rules_in os) → IsScoped (program_with os rules)

-- And a text that stands for a program has none.
abbrev pub ProgramsHaveNoFault : Type 0
ProgramsHaveNoFault = (os : Outline) (rules : List Rule) (x : Fault) → fault_of_names os ≡ None → IsScoped (program_with os rules) → IsFault os x → ⊥

-- ---- names

-- the body is that of the procedure, and what a name means in it is the number of the declaration that is visible there
pub record StandsIn (os : Outline) (b : Body) (v : Placed) : Type 0 where
  pub name : b.name ≡ v.name
  pub command : b.command ≡ v.command
  pub numbers : (n : Name) → IsNumbered os (meant_by v.visible n) (meaning_in b.scope n)

-- What names mean in the bodies of a text are the numbers of the declarations that are visible there.
abbrev pub NumbersArePlaces : Type 0
NumbersArePlaces = (os : Outline) → EachTo (StandsIn os) (all_bodies os) (procedures_of os)

-- The rules of a program are those of the text, in its order.
abbrev pub RulesAreInOrder : Type 0
RulesAreInOrder = (os : Outline) → rules_in os ≡ map (λ (x : RuleDecl × Place). x.0) (rules_at front os)

-- Where no name is at fault, Main and the procedures of the program call what is visible where the text calls it.
abbrev pub ProgramsCallWhatIsVisible : Type 0
ProgramsCallWhatIsVisible = (os : Outline) (rules : List Rule) → fault_of_names os ≡ None → CallsAsTextDoes os (program_with os rules)
