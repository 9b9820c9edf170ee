-- From the cause to the status of the top call.
use Rattle.std.specs.Prelude.{◌≡◌, ◌⊎◌, ◌↔◌, ℕ, ◌<◌, true, List, [], ◌∷◌, Option, Some, None, option_and_then}
use Rattle.gp_io.specs.Outside.{Content, KnownFiles, KnownSink, Rose}
use Rattle.gp_values.specs.Names.{Name}
use Rattle.gp_values.specs.Graph.{Graph}
use Rattle.gp_syntax.specs.declared.tree.Ast.{Ast}
use Rattle.gp_syntax.specs.Run.{Program, Item}
use Rattle.gp_reader.specs.declared.fault.ProgramFault.{ProgramFault}
use Rattle.gp_reader.specs.Program.{HasTree, IsProgramText, IsFaultyText}
use Rattle.gp_hostfile.specs.declared.fault.HostFault.{HostFault}
use Rattle.gp_hostfile.specs.Host.{IsHostFault}
use Rattle.gp_trace.specs.declared.version.Version.{Version}
use Rattle.gp_derivation.specs.Derivation.{IsDerivation}
use Rattle.gp_derivation.specs.declared.line.Line.{Line}
use Rattle.gp_words.specs.CommandLine.{RunCommand, DemoCommand, CheckCommand, FmtCommand, StepCommand, Command, run, demo, check, fmt, step, command_of}
use Rattle.gp_cli.specs.Inputs.{HasBytes, HasLongFile, HasProgram, HasProgramTree, HasHost, HasTrace, HasScript, HasFaultyProgram, HasTreelessProgram, HasFaultyHost, HasFaultyTrace, HasFaultyScript}
use Rattle.gp_cli.specs.Answer.{demo_program, demo_host, asks_journal, Replies}

abbrev pub IsOneOf : List ℕ → ℕ → Type 0
IsOneOf [] status = ⊥
IsOneOf (s ∷ ss) status = (status ≡ s) ⊎ IsOneOf ss status

-- a count of faults did not rise
abbrev pub Stays : ℕ → ℕ → Type 0
Stays before now = Rose before now → ⊥

-- Where the files' content is known and no device fails, `run` of a program and a host gives a graph, fail, the spent
-- bound or a number fault, or want of memory.
abbrev pub RunCompletes : List Name → KnownFiles → KnownFiles → KnownSink → KnownSink → KnownSink → KnownSink → ℕ → Type 0
RunCompletes words old new out_old out_new err_old err_new status =
    (held : Content) (k : RunCommand) (p : Program) (rule_names : List Name) (g : Graph) → old.content ≡ Some held → command_of words ≡ Some (run k) →
    HasProgram old.content k.program p rule_names → HasHost old.content k.host g →
    Stays old.faults new.faults → Stays out_old.faults out_new.faults → Stays err_old.faults err_new.faults → IsOneOf (0 ∷ 1 ∷ 5 ∷ 6 ∷ 7 ∷ []) status

-- Which of two answers is given, or want of memory: status 0 where they are a derivation, and status 1 where they are none.
pub record TellsDerivation (p : Program) (g : Graph) (version : Version) (items : List Item) (text : List ℕ) (status : ℕ) : Type 0 where
  pub either : IsOneOf (0 ∷ 1 ∷ 7 ∷ []) status
  pub derivation : IsDerivation p g version items text → IsOneOf (0 ∷ 7 ∷ []) status
  pub none : (IsDerivation p g version items text → ⊥) → IsOneOf (1 ∷ 7 ∷ []) status

-- Likewise `check` of a program, a host, a trace and a result says whether they are a derivation.
abbrev pub CheckCompletes : List Name → KnownFiles → KnownFiles → KnownSink → KnownSink → KnownSink → KnownSink → ℕ → Type 0
CheckCompletes words old new out_old out_new err_old err_new status =
    (held : Content) (k : CheckCommand) (p : Program) (rule_names : List Name) (g : Graph) (version : Version) (items : List Item) (text : List ℕ) →
    old.content ≡ Some held → command_of words ≡ Some (check k) → HasProgram old.content k.program p rule_names → HasHost old.content k.host g →
    HasTrace old.content k.trace version items → HasBytes old.content k.result text →
    Stays old.faults new.faults → Stays out_old.faults out_new.faults → Stays err_old.faults err_new.faults → TellsDerivation p g version items text status

-- The journal and the result that a call of `run` wrote with status 0 or 1: its words asked for the journal, and these were
-- the bytes of its program and of its host.
pub record HasWritten (program host journal result : List ℕ) : Type 0 where
  pub words : List Name
  pub command : RunCommand
  pub is_run : command_of words ≡ Some (run command)
  pub asked : asks_journal words ≡ true
  pub held : Content
  pub old : KnownFiles
  pub new : KnownFiles
  pub known : old.content ≡ Some held
  pub program_has : HasBytes old.content command.program program
  pub host_has : HasBytes old.content command.host host
  pub status : ℕ
  pub text : List ℕ
  pub replies : Replies words old new status journal result text
  pub ended : IsOneOf (0 ∷ 1 ∷ []) status

-- Of what it wrote, with the same program and host, `check` says that it is a derivation.
abbrev pub ChecksRuns : List Name → KnownFiles → KnownFiles → KnownSink → KnownSink → KnownSink → KnownSink → ℕ → Type 0
ChecksRuns words old new out_old out_new err_old err_new status =
    (held : Content) (k : CheckCommand) (program host journal result : List ℕ) →
    old.content ≡ Some held → command_of words ≡ Some (check k) → HasWritten program host journal result →
    HasBytes old.content k.program program → HasBytes old.content k.host host → HasBytes old.content k.trace journal → HasBytes old.content k.result result →
    Stays old.faults new.faults → Stays out_old.faults out_new.faults → Stays err_old.faults err_new.faults → IsOneOf (0 ∷ 7 ∷ []) status

-- `fmt` of a file that has a tree gives its canonical text.
abbrev pub FmtCompletes : List Name → KnownFiles → KnownFiles → KnownSink → KnownSink → KnownSink → KnownSink → ℕ → Type 0
FmtCompletes words old new out_old out_new err_old err_new status =
    (held : Content) (k : FmtCommand) (tree : Ast) → old.content ≡ Some held → command_of words ≡ Some (fmt k) → HasProgramTree old.content k.program tree →
    Stays old.faults new.faults → Stays out_old.faults out_new.faults → Stays err_old.faults err_new.faults → IsOneOf (0 ∷ 7 ∷ []) status

-- Both texts have this tree, and they have one program, or one fault in a name, a call or a rule.
pub record AreOneProgram (text other : List ℕ) : Type 0 where
  pub tree : Ast
  pub has_tree : HasTree text tree
  pub other_has : HasTree other tree
  pub program : (p : Program) → IsProgramText text p ↔ IsProgramText other p
  pub fault : (f : ProgramFault) → IsFaultyText text f ↔ IsFaultyText other f

-- What `fmt` writes with status 0 is a text of the program that its file has.
abbrev pub FormatsTheSame : List Name → KnownFiles → KnownFiles → Type 0
FormatsTheSame words old new =
    (k : FmtCommand) (journal result text : List ℕ) → command_of words ≡ Some (fmt k) → Replies words old new 0 journal result text →
    (bytes : List ℕ) × HasBytes old.content k.program bytes × AreOneProgram bytes result

-- The result that a call of `fmt` wrote with status 0.
pub record HasFormatted (result : List ℕ) : Type 0 where
  pub words : List Name
  pub command : FmtCommand
  pub is_fmt : command_of words ≡ Some (fmt command)
  pub old : KnownFiles
  pub new : KnownFiles
  pub journal : List ℕ
  pub text : List ℕ
  pub replies : Replies words old new 0 journal result text

-- Where a reply tells that the program was written, this is its result.
abbrev pub GivesAgain : List Name → KnownFiles → KnownFiles → List ℕ → Type 0
GivesAgain words old new result = (journal again text : List ℕ) → Replies words old new 0 journal again text → again ≡ result

-- Of what it wrote, where it is not too long, `fmt` gives the same text again.
abbrev pub FormatsAgain : List Name → KnownFiles → KnownFiles → KnownSink → KnownSink → KnownSink → KnownSink → ℕ → Type 0
FormatsAgain words old new out_old out_new err_old err_new status =
    (held : Content) (k : FmtCommand) (result : List ℕ) → old.content ≡ Some held → command_of words ≡ Some (fmt k) → HasFormatted result → HasBytes old.content k.program result →
    Stays old.faults new.faults → Stays out_old.faults out_new.faults → Stays err_old.faults err_new.faults →
    IsOneOf (0 ∷ 7 ∷ []) status × GivesAgain words old new result

-- `step` of a program, a host and a script gives what the script comes to, the spent bound or a number fault.
abbrev pub StepCompletes : List Name → KnownFiles → KnownFiles → KnownSink → KnownSink → KnownSink → KnownSink → ℕ → Type 0
StepCompletes words old new out_old out_new err_old err_new status =
    (held : Content) (k : StepCommand) (p : Program) (rule_names : List Name) (g : Graph) (lines : List Line) →
    old.content ≡ Some held → command_of words ≡ Some (step k) → HasProgram old.content k.program p rule_names → HasHost old.content k.host g →
    HasScript old.content k.script lines →
    Stays old.faults new.faults → Stays out_old.faults out_new.faults → Stays err_old.faults err_new.faults → IsOneOf (0 ∷ 5 ∷ 6 ∷ 7 ∷ []) status

-- Where no sink fails, `demo` gives its summary, or what its texts come to: the fault of one, fail, the spent bound or a
-- number fault; or want of memory.
abbrev pub DemoCompletes : List Name → KnownSink → KnownSink → KnownSink → KnownSink → ℕ → Type 0
DemoCompletes words out_old out_new err_old err_new status =
    (k : DemoCommand) → command_of words ≡ Some (demo k) →
    Stays out_old.faults out_new.faults → Stays err_old.faults err_new.faults → IsOneOf (0 ∷ 1 ∷ 3 ∷ 4 ∷ 5 ∷ 6 ∷ 7 ∷ []) status

-- no count of faults rose
pub record NoSinkFails (out_old out_new err_old err_new : KnownSink) : Type 0 where
  pub out : Stays out_old.faults out_new.faults
  pub err : Stays err_old.faults err_new.faults

pub record NothingFails (old new : KnownFiles) (out_old out_new err_old err_new : KnownSink) : Type 0 where
  pub files : Stays old.faults new.faults
  pub sinks : NoSinkFails out_old out_new err_old err_new

-- this status, unless memory is refused; or, where a device fails, one of these
abbrev pub Refuses : ℕ → List ℕ → Type 0 → ℕ → Type 0
Refuses code of_devices NoneFails status = IsOneOf (code ∷ 7 ∷ of_devices) status × (NoneFails → IsOneOf (code ∷ 7 ∷ []) status)

-- Words that are no command are refused.
abbrev pub RefusesWords : List Name → KnownSink → KnownSink → KnownSink → KnownSink → ℕ → Type 0
RefusesWords words out_old out_new err_old err_new status = command_of words ≡ None → Refuses 2 (9 ∷ []) (NoSinkFails out_old out_new err_old err_new) status

-- the files of a program and of a host that a command reads, where it reads both
abbrev pub files_of : Command → Option (Name × Name)
files_of (run k) = Some (k.program, k.host)
files_of (demo k) = None
files_of (check k) = Some (k.program, k.host)
files_of (fmt k) = None
files_of (step k) = Some (k.program, k.host)

-- those of the words
abbrev pub both_files : List Name → Option (Name × Name)
both_files words = option_and_then files_of (command_of words)

-- Where the files' content is known, a faulty program of `run`, `check` or `step` is refused.
abbrev pub RefusesProgram : List Name → KnownFiles → KnownFiles → KnownSink → KnownSink → KnownSink → KnownSink → ℕ → Type 0
RefusesProgram words old new out_old out_new err_old err_new status =
    (held : Content) (program host : Name) → old.content ≡ Some held → both_files words ≡ Some (program, host) → HasFaultyProgram old.content program →
    Refuses 3 (8 ∷ 9 ∷ []) (NothingFails old new out_old out_new err_old err_new) status

-- A faulty host likewise, where the program is one.
abbrev pub RefusesHost : List Name → KnownFiles → KnownFiles → KnownSink → KnownSink → KnownSink → KnownSink → ℕ → Type 0
RefusesHost words old new out_old out_new err_old err_new status =
    (held : Content) (program host : Name) (p : Program) (rule_names : List Name) → old.content ≡ Some held → both_files words ≡ Some (program, host) →
    HasProgram old.content program p rule_names → HasFaultyHost old.content host →
    Refuses 4 (8 ∷ 9 ∷ []) (NothingFails old new out_old out_new err_old err_new) status

-- A faulty trace of `check` likewise, where both are, and then a result that is too long.
abbrev pub RefusesTrace : List Name → KnownFiles → KnownFiles → KnownSink → KnownSink → KnownSink → KnownSink → ℕ → Type 0
RefusesTrace words old new out_old out_new err_old err_new status =
    (held : Content) (k : CheckCommand) (p : Program) (rule_names : List Name) (g : Graph) → old.content ≡ Some held → command_of words ≡ Some (check k) →
    HasProgram old.content k.program p rule_names → HasHost old.content k.host g → HasFaultyTrace old.content k.trace →
    Refuses 10 (8 ∷ 9 ∷ []) (NothingFails old new out_old out_new err_old err_new) status

abbrev pub RefusesResult : List Name → KnownFiles → KnownFiles → KnownSink → KnownSink → KnownSink → KnownSink → ℕ → Type 0
RefusesResult words old new out_old out_new err_old err_new status =
    (held : Content) (k : CheckCommand) (p : Program) (rule_names : List Name) (g : Graph) (version : Version) (items : List Item) →
    old.content ≡ Some held → command_of words ≡ Some (check k) → HasProgram old.content k.program p rule_names → HasHost old.content k.host g →
    HasTrace old.content k.trace version items → HasLongFile old.content k.result →
    Refuses 10 (8 ∷ 9 ∷ []) (NothingFails old new out_old out_new err_old err_new) status

-- and a faulty script of `step`
abbrev pub RefusesScript : List Name → KnownFiles → KnownFiles → KnownSink → KnownSink → KnownSink → KnownSink → ℕ → Type 0
RefusesScript words old new out_old out_new err_old err_new status =
    (held : Content) (k : StepCommand) (p : Program) (rule_names : List Name) (g : Graph) → old.content ≡ Some held → command_of words ≡ Some (step k) →
    HasProgram old.content k.program p rule_names → HasHost old.content k.host g → HasFaultyScript old.content k.script →
    Refuses 11 (8 ∷ 9 ∷ []) (NothingFails old new out_old out_new err_old err_new) status

-- Where the files' content is known, a program of `fmt` that has no tree is refused.
abbrev pub RefusesTree : List Name → KnownFiles → KnownFiles → KnownSink → KnownSink → KnownSink → KnownSink → ℕ → Type 0
RefusesTree words old new out_old out_new err_old err_new status =
    (held : Content) (k : FmtCommand) → old.content ≡ Some held → command_of words ≡ Some (fmt k) → HasTreelessProgram old.content k.program →
    Refuses 3 (8 ∷ 9 ∷ []) (NothingFails old new out_old out_new err_old err_new) status

-- A faulty text of `demo` is refused.
abbrev pub RefusesDemoProgram : List Name → KnownSink → KnownSink → KnownSink → KnownSink → ℕ → Type 0
RefusesDemoProgram words out_old out_new err_old err_new status =
    (k : DemoCommand) (f : ProgramFault) → command_of words ≡ Some (demo k) → IsFaultyText (demo_program k) f →
    Refuses 3 (9 ∷ []) (NoSinkFails out_old out_new err_old err_new) status

abbrev pub RefusesDemoHost : List Name → KnownSink → KnownSink → KnownSink → KnownSink → ℕ → Type 0
RefusesDemoHost words out_old out_new err_old err_new status =
    (k : DemoCommand) (p : Program) (f : HostFault) → command_of words ≡ Some (demo k) → IsProgramText (demo_program k) p → IsHostFault (demo_host k) f →
    Refuses 4 (9 ∷ []) (NoSinkFails out_old out_new err_old err_new) status

-- A sink whose count of faults rose is told of.
abbrev pub TellsFaults : KnownSink → KnownSink → ℕ → Type 0
TellsFaults old new status = old.faults < new.faults → status ≡ 9

pub record Completes (words : List Name) (old new : KnownFiles) (out_old out_new err_old err_new : KnownSink) (status : ℕ) : Type 0 where
  pub runs : RunCompletes words old new out_old out_new err_old err_new status
  pub checks : CheckCompletes words old new out_old out_new err_old err_new status
  pub checks_runs : ChecksRuns words old new out_old out_new err_old err_new status
  pub formats : FmtCompletes words old new out_old out_new err_old err_new status
  pub formats_the_same : FormatsTheSame words old new
  pub formats_again : FormatsAgain words old new out_old out_new err_old err_new status
  pub steps : StepCompletes words old new out_old out_new err_old err_new status
  pub demos : DemoCompletes words out_old out_new err_old err_new status
  pub words_refused : RefusesWords words out_old out_new err_old err_new status
  pub program_refused : RefusesProgram words old new out_old out_new err_old err_new status
  pub host_refused : RefusesHost words old new out_old out_new err_old err_new status
  pub trace_refused : RefusesTrace words old new out_old out_new err_old err_new status
  pub result_refused : RefusesResult words old new out_old out_new err_old err_new status
  pub script_refused : RefusesScript words old new out_old out_new err_old err_new status
  pub tree_refused : RefusesTree words old new out_old out_new err_old err_new status
  pub demo_program_refused : RefusesDemoProgram words out_old out_new err_old err_new status
  pub demo_host_refused : RefusesDemoHost words out_old out_new err_old err_new status
  pub out_faults : TellsFaults out_old out_new status
  pub err_faults : TellsFaults err_old err_new status
