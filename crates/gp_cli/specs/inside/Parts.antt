-- What the parts of the top call do.
use Rattle.std.specs.Prelude.{ℕ, Bool, true, false, List, [], Result, Ok, Err}
use Rattle.gp_io.specs.Outside.{KnownFiles, KnownSink}
use Rattle.gp_io.specs.declared.outside.Failed.{Failed as Fault}
use Rattle.gp_memory.specs.Free.{Free}
use Rattle.gp_memory.specs.declared.refusal.NoMemory.{NoMemory}
use Rattle.gp_graph.specs.declared.graph.Graph.{Graph}
use Rattle.gp_syntax.specs.declared.command.ProgramParts.{ProgramParts}
use Rattle.gp_syntax.specs.Tree.{program_of_tree}
use Rattle.gp_syntax.specs.Run.{Program}
use Rattle.gp_hostfile.specs.Host.{IsHostText}
use Rattle.gp_values.specs.Graph.{Graph as AnyGraph}
use Rattle.gp_words.specs.CommandLine.{RunCommand, DemoCommand, CheckCommand, FmtCommand, StepCommand}
use Rattle.gp_cli.specs.declared.said.Stop.{Stop}
use Rattle.gp_cli.specs.declared.said.Stop.TheVariants as stops
use Rattle.gp_cli.specs.declared.said.Said.{Said}
use Rattle.gp_cli.specs.declared.said.Said.TheVariants as code
use Rattle.gp_cli.specs.Texts as texts
use Rattle.gp_cli.specs.Said.{said_of, IsTold}
use Rattle.gp_cli.specs.Inputs.{TellsProgram}
use Rattle.gp_cli.specs.Answer.{RunAnswers, demo_program, demo_host, DemoAnswers, Checks, CheckAnswers, FmtAnswers, StepAnswers}
use Rattle.gp_cli.specs.Written.{TakesAll, IsCutShort}
use Rattle.gp_cli.specs.Loads.{names_of}

-- ---- what commands come to

-- what holds of an answer, where memory is not refused; the journal is asked for, or not
abbrev pub IfSettled : Bool → (texts.Said → Type 0) → Result Said Stop → Type 0
IfSettled asked P (Ok s) = IsTold asked P s
IfSettled asked P (Err (stops.Said e)) = P (said_of e)
IfSettled asked P (Err stops.NoMemory) = Free

-- those of the texts of a demo, or what is answered in their place
abbrev pub MakesBoth : DemoCommand → Result (ProgramParts × Graph) Stop → Type 0
MakesBoth k (Ok t) = TellsProgram (demo_program k) (program_of_tree t.0) (names_of t.0) × IsHostText (demo_host k) t.1.graph
MakesBoth k (Err (stops.Said e)) = DemoAnswers k (said_of e)
MakesBoth k (Err stops.NoMemory) = Free

abbrev pub RunsFiles : KnownFiles → KnownFiles → RunCommand → Result Said Stop → Type 0
RunsFiles old new k = IfSettled k.journal (RunAnswers old new k)

abbrev pub RunsDemo : DemoCommand → Result Said Stop → Type 0
RunsDemo k = IfSettled false (DemoAnswers k)

-- what is said of it, whether it is a derivation
abbrev pub verdict : Result Bool NoMemory → Result Said Stop
verdict (Ok true) = Ok code.Derivation
verdict (Ok false) = Ok code.NoDerivation
verdict (Err _) = Err stops.NoMemory

abbrev pub ChecksBoth : KnownFiles → KnownFiles → CheckCommand → Program → AnyGraph → Result Said Stop → Type 0
ChecksBoth old new k p g = IfSettled false (Checks old new k p g)

abbrev pub ChecksFiles : KnownFiles → KnownFiles → CheckCommand → Result Said Stop → Type 0
ChecksFiles old new k = IfSettled false (CheckAnswers old new k)

abbrev pub FormatsFile : KnownFiles → KnownFiles → FmtCommand → Result Said Stop → Type 0
FormatsFile old new k = IfSettled false (FmtAnswers old new k)

abbrev pub StepsFiles : KnownFiles → KnownFiles → StepCommand → Result Said Stop → Type 0
StepsFiles old new k = IfSettled false (StepAnswers old new k)

-- ---- what is written

-- all of these pieces went out, or the write of one failed
abbrev pub Writes : KnownSink → KnownSink → List (List ℕ) → Result (Unit {0}) Fault → Type 0
Writes old new pieces (Ok _) = TakesAll old new pieces
Writes old new pieces (Err _) = IsCutShort old new pieces

-- All pieces went out, and the status stands. Or it is 9: the first sink was cut short, and the second was given nothing; or
-- the first took all, and the second was cut short.
pub data Delivers (status : ℕ) (out err : List (List ℕ)) (out_old out_new err_old err_new : KnownSink) : ℕ → Type 0 where
  whole : TakesAll out_old out_new out → TakesAll err_old err_new err → Delivers status out err out_old out_new err_old err_new status
  out_cut : IsCutShort out_old out_new out → TakesAll err_old err_new [] → Delivers status out err out_old out_new err_old err_new 9
  err_cut : TakesAll out_old out_new out → IsCutShort err_old err_new err → Delivers status out err out_old out_new err_old err_new 9
