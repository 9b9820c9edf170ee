-- A command in memory as the command that it is.
use Rattle.gp_gen.specs.Host.{IsSize}
use Rattle.gp_words.specs.declared.command.CrewOptions.{CrewOptions}
use Rattle.gp_words.specs.declared.command.RunCommand.{RunCommand}
use Rattle.gp_words.specs.declared.command.DemoCommand.{DemoCommand}
use Rattle.gp_words.specs.declared.command.CheckCommand.{CheckCommand}
use Rattle.gp_words.specs.declared.command.FmtCommand.{FmtCommand}
use Rattle.gp_words.specs.declared.command.StepCommand.{StepCommand}
use Rattle.gp_words.specs.declared.command.Command.{Command}
use Rattle.gp_words.specs.declared.command.Command.TheVariants.{Run, Demo, Check, Fmt, Step}
use Rattle.gp_words.specs.CommandLine as meant

abbrev pub crew_now : CrewOptions → meant.CrewOptions
crew_now c = record { workers = c.workers; fan = c.fan; batch = c.batch }

abbrev pub run_now : RunCommand → meant.RunCommand
run_now c = record { program = c.program.now; host = c.host.now; bound = c.bound; seed = c.seed; journal = c.journal; crew = crew_now c.crew }

abbrev pub demo_now : DemoCommand → meant.DemoCommand
demo_now c = record { kind = c.kind; size = c.size; seed = c.seed; crew = crew_now c.crew }

abbrev pub check_now : CheckCommand → meant.CheckCommand
check_now c = record { program = c.program.now; host = c.host.now; trace = c.trace.now; result = c.result.now }

abbrev pub fmt_now : FmtCommand → meant.FmtCommand
fmt_now c = record { program = c.program.now }

abbrev pub step_now : StepCommand → meant.StepCommand
step_now c = record { program = c.program.now; host = c.host.now; script = c.script.now; bound = c.bound; seed = c.seed }

abbrev pub command_now : Command → meant.Command
command_now (Run c) = meant.run (run_now c)
command_now (Demo c) = meant.demo (demo_now c)
command_now (Check c) = meant.check (check_now c)
command_now (Fmt c) = meant.fmt (fmt_now c)
command_now (Step c) = meant.step (step_now c)

-- a demo has a size of its kind
abbrev pub HasSize : Command → Type 0
HasSize (Run c) = Unit {0}
HasSize (Demo c) = IsSize c.kind c.size
HasSize (Check c) = Unit {0}
HasSize (Fmt c) = Unit {0}
HasSize (Step c) = Unit {0}
