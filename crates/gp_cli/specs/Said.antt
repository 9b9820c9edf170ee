-- What the values of the code answer.
use Rattle.std.specs.Prelude.{◌≡◌, Bool, List, Result, Ok, Err}
use Rattle.gp_memory.specs.declared.refusal.NoMemory.{NoMemory}
use Rattle.gp_syntax.specs.Run.{Item}
use Rattle.gp_reader.specs.declared.fault.ProgramFault.{ProgramFault}
use Rattle.gp_reader.specs.declared.fault.ProgramFault.TheVariants as program
use Rattle.gp_hostfile.specs.declared.fault.HostFault.{HostFault}
use Rattle.gp_hostfile.specs.declared.fault.HostFault.TheVariants as host
use Rattle.gp_trace.specs.declared.fault.TraceFault.{TraceFault}
use Rattle.gp_trace.specs.declared.fault.TraceFault.TheVariants as trace
use Rattle.gp_derivation.specs.declared.script_fault.ScriptFault.{ScriptFault}
use Rattle.gp_derivation.specs.declared.script_fault.ScriptFault.TheVariants as script
use Rattle.gp_system.specs.declared.outcome.Ran.{Ran}
use Rattle.gp_system.specs.Ended.{kept_if, items_left}
use Rattle.gp_cli.specs.declared.said.Refusal.{Refusal}
use Rattle.gp_cli.specs.declared.said.Refusal.TheVariants as why
use Rattle.gp_cli.specs.declared.said.Said.{Said}
use Rattle.gp_cli.specs.declared.said.Said.TheVariants as code
use Rattle.gp_cli.specs.declared.said.Stop.{Stop}
use Rattle.gp_cli.specs.declared.said.Stop.TheVariants as stops
use Rattle.gp_cli.specs.Summary.{live_count}
use Rattle.gp_cli.specs.Texts as texts

-- ---- refusals

-- the answer that a refusal is
abbrev pub said_of : Refusal → texts.Said
said_of why.Usage = texts.usage
said_of why.LongProgram = texts.long_program
said_of (why.BadProgram f) = texts.bad_program f
said_of why.LongHost = texts.long_host
said_of (why.BadHost f) = texts.bad_host f
said_of why.LongTrace = texts.long_trace
said_of (why.BadTrace line) = texts.bad_trace line
said_of why.LongResult = texts.long_result
said_of why.LongScript = texts.long_script
said_of (why.BadScript line) = texts.bad_script line
said_of (why.Unread name) = texts.unread name.now

-- what is answered of a fault of a program; want of memory is none
abbrev pub program_refused : ProgramFault → Stop
program_refused (program.Lex e) = stops.Said (why.BadProgram (program.Lex e))
program_refused (program.TooDeep line) = stops.Said (why.BadProgram (program.TooDeep line))
program_refused (program.Syntax line) = stops.Said (why.BadProgram (program.Syntax line))
program_refused (program.NumberRange line) = stops.Said (why.BadProgram (program.NumberRange line))
program_refused (program.Scope e) = stops.Said (why.BadProgram (program.Scope e))
program_refused (program.Rule name e) = stops.Said (why.BadProgram (program.Rule name e))
program_refused program.NoMemory = stops.NoMemory

-- of a host
abbrev pub host_refused : HostFault → Stop
host_refused (host.Lex e) = stops.Said (why.BadHost (host.Lex e))
host_refused (host.Syntax k) = stops.Said (why.BadHost (host.Syntax k))
host_refused (host.NumberRange at) = stops.Said (why.BadHost (host.NumberRange at))
host_refused (host.TwoNodes name) = stops.Said (why.BadHost (host.TwoNodes name))
host_refused (host.TwoEdges name) = stops.Said (why.BadHost (host.TwoEdges name))
host_refused (host.NoSuchEnd name) = stops.Said (why.BadHost (host.NoSuchEnd name))
host_refused (host.WrongMark name) = stops.Said (why.BadHost (host.WrongMark name))
host_refused host.NoMemory = stops.NoMemory

-- of a trace
abbrev pub trace_refused : TraceFault → Stop
trace_refused (trace.Line line) = stops.Said (why.BadTrace line)
trace_refused trace.NoMemory = stops.NoMemory

-- of a script
abbrev pub script_refused : ScriptFault → Stop
script_refused (script.Line line) = stops.Said (why.BadScript line)
script_refused script.NoMemory = stops.NoMemory

-- ---- what a command comes to

-- What a run with this trace leaves: as many steps are live as at its end, and its items are there exactly where the
-- journal is asked for.
pub record IsLeftOf (asked : Bool) (t : List Item) (r : Ran) : Type 0 where
  pub items : items_left r ≡ kept_if asked t
  pub live_steps : r.live ≡ live_count t

-- The value tells this answer. What a run leaves need not hold its trace.
abbrev pub Tells : Bool → Said → texts.Said → Type 0
Tells asked (code.Graph r) said = (t : List Item) × IsLeftOf asked t r × (said ≡ texts.graph t r.graph.graph)
Tells asked (code.Fail r) said = (t : List Item) × IsLeftOf asked t r × (said ≡ texts.failed t)
Tells asked (code.Demo kind size r) said = (t : List Item) × IsLeftOf asked t r × (said ≡ texts.demo_done kind size t r.graph.graph)
Tells asked code.Derivation said = said ≡ texts.derivation
Tells asked code.NoDerivation said = said ≡ texts.no_derivation
Tells asked (code.Formatted text) said = said ≡ texts.formatted text.items
Tells asked (code.Walked text) said = said ≡ texts.walked text.items
Tells asked (code.Bound n) said = said ≡ texts.bound_spent n
Tells asked (code.Number name kind) said = said ≡ texts.number_fault name kind
Tells asked (code.Refused e) said = said ≡ said_of e

-- it tells an answer of which this holds
pub record IsTold (asked : Bool) (P : texts.Said → Type 0) (s : Said) : Type 0 where
  pub said : texts.Said
  pub tells : Tells asked s said
  pub holds : P said

-- ---- answers and stops

-- this is answered, and not want of memory
abbrev pub IsAnswer : Result Said Stop → Said → Type 0
IsAnswer (Ok s) said = said ≡ s
IsAnswer (Err (stops.Said e)) said = said ≡ code.Refused e
IsAnswer (Err stops.NoMemory) said = ⊥

-- the answer, or the stop of refused memory
abbrev pub or_stopped : Result Said NoMemory → Result Said Stop
or_stopped (Ok s) = Ok s
or_stopped (Err _) = Err stops.NoMemory
