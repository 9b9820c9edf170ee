-- What the top call may answer, and why.
use Rattle.std.specs.Prelude.{◌≡◌, ℕ, ◌^◌, ◌≤◌, Bool, false, List, [], slice_get, Option, Some, None}
use Rattle.std.specs.Option.{option_map_or}
use Rattle.gp_io.specs.Outside.{KnownFiles, KnownSink, piece_of}
use Rattle.gp_values.specs.Names.{Name}
use Rattle.gp_values.specs.Graph.{Graph}
use Rattle.gp_syntax.specs.declared.kinds.NumberKind.{NumberKind}
use Rattle.gp_syntax.specs.declared.tree.Ast.{Ast}
use Rattle.gp_syntax.specs.Run.{Program, Item, Ending, Gives, Fails, At, Run, counted, MayGoOn, HasFaultyCall}
use Rattle.gp_reader.specs.declared.fault.ProgramFault.{ProgramFault}
use Rattle.gp_reader.specs.Program.{IsFaultyText}
use Rattle.gp_fmt.specs.Canonical.{canonical_text}
use Rattle.gp_hostfile.specs.declared.fault.HostFault.{HostFault}
use Rattle.gp_hostfile.specs.Host.{IsHostText, IsHostFault}
use Rattle.gp_trace.specs.declared.version.Version.{Version}
use Rattle.gp_derivation.specs.Derivation.{IsDerivation}
use Rattle.gp_derivation.specs.declared.line.Line.{Line}
use Rattle.gp_derivation.specs.Walk.{Walks}
use Rattle.gp_gen.specs.Texts.{program_text, host_text}
use Rattle.gp_words.specs.CommandLine.{RunCommand, DemoCommand, CheckCommand, FmtCommand, StepCommand, Command, run, demo, check, fmt, step, command_of}
use Rattle.gp_cli.specs.Choices.{AreSeeded}
use Rattle.gp_cli.specs.Texts.{Said, graph, failed, derivation, no_derivation, formatted, walked, usage, bad_program, bad_host, bound_spent, number_fault, unread, of_demo_run, Shows}
use Rattle.gp_cli.specs.Written.{out_pieces, TakesAll, IsCutShort}
use Rattle.gp_cli.specs.Inputs.{HasBytes, HasProgramTree, HasScript, HasTrace, OfBoth, StopsAtResult, StopsAtScript, StopsAtTrace, StopsAtTree, TellsProgram}

-- ---- what a program comes to on a host

-- GP 2's rules lead from the host so: with the choices of the seed, and with no more items counted than may be
pub record RunsTo (bound seed : ℕ) (p : Program) (g : Graph) (t : List Item) (x : Ending) : Type 0 where
  pub picks : List Bool
  pub run : Run p p.main g picks t x
  pub seeded : AreSeeded seed picks
  pub within : counted t ≤ bound

-- what the program comes to on the host, within the bound and with the choices of the seed
pub data Comes (bound seed : ℕ) (p : Program) (rule_names : List Name) (g : Graph) : Said → Type 0 where
  -- they give this graph
  gives : {h : Graph} {t : List Item} → RunsTo bound seed p g t (Gives h) → Comes bound seed p rule_names g (graph t h)
  -- they give fail
  fails : {h : Graph} {t : List Item} → RunsTo bound seed p g t (Fails h) → Comes bound seed p rule_names g (failed t)
  -- all items that may be counted are, and the run stands before a turn of a loop, or before a call of which some match
  -- applies
  is_spent : (h : Graph) {t : List Item} {x : Ending} → RunsTo bound seed p g t x → MayGoOn p h x → counted t ≡ bound → Comes bound seed p rule_names g (bound_spent bound)
  -- the run stands before a call, and the rule of that name, one of its set, has a faulty match of this kind
  is_faulty : {h : Graph} {t : List Item} {call rule : ℕ} {name : Name} {kind : NumberKind} → RunsTo bound seed p g t (At call h) → HasFaultyCall p call rule kind h →
      slice_get rule_names rule ≡ Some name → Comes bound seed p rule_names g (number_fault name kind)

-- ---- `run`

-- the program is run on the host
abbrev pub RunAnswers : KnownFiles → KnownFiles → RunCommand → Said → Type 0
RunAnswers old new k = OfBoth old new k.program k.host (Comes k.bound k.seed)

-- ---- `check`

-- The order is: trace read, trace, result read, check.
pub data Checks (old new : KnownFiles) (k : CheckCommand) (p : Program) (g : Graph) : Said → Type 0 where
  at_trace : {said : Said} → StopsAtTrace old new k.trace said → Checks old new k p g said
  at_result : {version : Version} {items : List Item} {said : Said} → HasTrace old.content k.trace version items → StopsAtResult old new k.result said →
      Checks old new k p g said
  is_derivation : {version : Version} {items : List Item} {text : List ℕ} → HasTrace old.content k.trace version items → HasBytes old.content k.result text →
      IsDerivation p g version items text → Checks old new k p g derivation
  is_none : {version : Version} {items : List Item} {text : List ℕ} → HasTrace old.content k.trace version items → HasBytes old.content k.result text →
      (IsDerivation p g version items text → ⊥) → Checks old new k p g no_derivation

-- the trace and the result are checked against the program and the host
abbrev pub CheckAnswers : KnownFiles → KnownFiles → CheckCommand → Said → Type 0
CheckAnswers old new k = OfBoth old new k.program k.host (λ p rule_names g. Checks old new k p g)

-- ---- `fmt`

-- The program is written in the canonical text of its tree. Its names, its calls and its rules are not checked.
pub data FmtAnswers (old new : KnownFiles) (k : FmtCommand) : Said → Type 0 where
  stops : {said : Said} → StopsAtTree old new k.program said → FmtAnswers old new k said
  formats : {tree : Ast} → HasProgramTree old.content k.program tree → FmtAnswers old new k (formatted (canonical_text tree))

-- ---- `step`

-- the run has ended
abbrev pub HasEnded : Ending → Type 0
HasEnded (Gives h) = Unit {0}
HasEnded (Fails h) = Unit {0}
HasEnded other = ⊥

-- a run that has no end is answered so
abbrev pub IsEndless : Said → Type 0
IsEndless (bound_spent n) = Unit {0}
IsEndless (number_fault name kind) = Unit {0}
IsEndless other = ⊥

-- The order is: script read, script, run. Where the run ends, in place of its end the script is walked over its items.
pub data Steps (old new : KnownFiles) (k : StepCommand) (p : Program) (rule_names : List Name) (g : Graph) : Said → Type 0 where
  at_script : {said : Said} → StopsAtScript old new k.script said → Steps old new k p rule_names g said
  walks : {lines : List Line} {t : List Item} {x : Ending} {text : List ℕ} → HasScript old.content k.script lines → RunsTo k.bound k.seed p g t x → HasEnded x →
      Walks p.rules g t 0 lines text → Steps old new k p rule_names g (walked text)
  is_endless : {lines : List Line} {said : Said} → HasScript old.content k.script lines → Comes k.bound k.seed p rule_names g said → IsEndless said →
      Steps old new k p rule_names g said

-- a script is walked over a run of the program on the host
abbrev pub StepAnswers : KnownFiles → KnownFiles → StepCommand → Said → Type 0
StepAnswers old new k = OfBoth old new k.program k.host (Steps old new k)

-- ---- `demo`

-- its program's text and its host's are made from its kind, its size and its seed
abbrev pub demo_program : DemoCommand → List ℕ
demo_program k = program_text k.kind

abbrev pub demo_host : DemoCommand → List ℕ
demo_host k = host_text k.kind k.size k.seed

abbrev pub demo_bound : ℕ
demo_bound = 2 ^ 40

-- with what the choices of its run begin
abbrev pub demo_choices : ℕ
demo_choices = 0

-- The order is: program, host, run. No file is read.
pub data DemoAnswers (k : DemoCommand) : Said → Type 0 where
  demo_program_is_bad : {f : ProgramFault} → IsFaultyText (demo_program k) f → DemoAnswers k (bad_program f)
  demo_host_is_bad : {p : Program} {rule_names : List Name} {f : HostFault} → TellsProgram (demo_program k) p rule_names → IsHostFault (demo_host k) f →
      DemoAnswers k (bad_host f)
  demo_runs : {p : Program} {rule_names : List Name} {g : Graph} {said : Said} → TellsProgram (demo_program k) p rule_names → IsHostText (demo_host k) g →
      Comes demo_bound demo_choices p rule_names g said → DemoAnswers k (of_demo_run k said)

-- ---- when an answer is true

pub data IsTrue (words : List Name) (old new : KnownFiles) : Said → Type 0 where
  of_words : command_of words ≡ None → IsTrue words old new usage
  of_run : {k : RunCommand} {said : Said} → command_of words ≡ Some (run k) → RunAnswers old new k said → IsTrue words old new said
  of_demo : {k : DemoCommand} {said : Said} → command_of words ≡ Some (demo k) → DemoAnswers k said → IsTrue words old new said
  of_check : {k : CheckCommand} {said : Said} → command_of words ≡ Some (check k) → CheckAnswers old new k said → IsTrue words old new said
  of_fmt : {k : FmtCommand} {said : Said} → command_of words ≡ Some (fmt k) → FmtAnswers old new k said → IsTrue words old new said
  of_step : {k : StepCommand} {said : Said} → command_of words ≡ Some (step k) → StepAnswers old new k said → IsTrue words old new said

-- ---- what is written

-- the command asks for the journal
abbrev pub wants_journal : Command → Bool
wants_journal (run k) = k.journal
wants_journal (demo k) = false
wants_journal (check k) = false
wants_journal (fmt k) = false
wants_journal (step k) = false

-- the words ask for it
abbrev pub asks_journal : List Name → Bool
asks_journal words = option_map_or wants_journal (command_of words) false

-- a true answer with its status, its journal and its result for out, and its text for err
pub record Replies (words : List Name) (old new : KnownFiles) (status : ℕ) (journal result text : List ℕ) : Type 0 where
  pub said : Said
  pub is_true : IsTrue words old new said
  pub shows : Shows (asks_journal words) said status journal result text

-- What the top call answers: a reply, whole; want of memory, and then nothing is written; or, where the write of a piece of
-- the reply failed, 9. Out is written before err, and nothing is written after a failed write. The counts of faults stay,
-- but at 9.
pub data Answered (words : List Name) (old new : KnownFiles) (out_old out_new err_old err_new : KnownSink) : ℕ → Type 0 where
  replied : {status : ℕ} {journal result text : List ℕ} → Replies words old new status journal result text →
      TakesAll out_old out_new (out_pieces journal result) → TakesAll err_old err_new (piece_of text) → Answered words old new out_old out_new err_old err_new status
  no_memory : TakesAll out_old out_new [] → TakesAll err_old err_new [] → Answered words old new out_old out_new err_old err_new 7
  out_fault : {status : ℕ} {journal result text : List ℕ} → Replies words old new status journal result text →
      IsCutShort out_old out_new (out_pieces journal result) → TakesAll err_old err_new [] → Answered words old new out_old out_new err_old err_new 9
  err_fault : {status : ℕ} {journal result text : List ℕ} → Replies words old new status journal result text →
      TakesAll out_old out_new (out_pieces journal result) → IsCutShort err_old err_new (piece_of text) → Answered words old new out_old out_new err_old err_new 9

-- want of memory for the words themselves: status 7, no file is read, and nothing is written
pub record IsSilent {F O E : Type 0} (old new : F) (out_old out_new : O) (err_old err_new : E) (status : ℕ) : Type 0 where
  pub no_memory : status ≡ 7
  pub unread : new ≡ old
  pub out_unwritten : out_new ≡ out_old
  pub err_unwritten : err_new ≡ err_old

-- the command reads no file: it is none, or a demo
abbrev pub ReadsNone : Option Command → Type 0
ReadsNone None = Unit {0}
ReadsNone (Some (run k)) = ⊥
ReadsNone (Some (demo k)) = Unit {0}
ReadsNone (Some (check k)) = ⊥
ReadsNone (Some (fmt k)) = ⊥
ReadsNone (Some (step k)) = ⊥
