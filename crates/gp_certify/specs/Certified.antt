-- What is told of a program, a host and a trace.
use Rattle.std.specs.Prelude.{Bool, List}
use Rattle.gp_values.specs.Graph.{Graph}
use Rattle.gp_syntax.specs.Run.{Program, Item, Ending, Run}

-- some run of Main from the host makes these items and ends so
abbrev pub HasRunTo : Program → Graph → List Item → Ending → Type 0
HasRunTo program host t x = (picks : List Bool) × Run program program.main host picks t x
