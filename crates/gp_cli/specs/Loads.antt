-- What the calls answer: what was read of a file, or what is answered in its place.
use Rattle.std.specs.Prelude.{◌≡◌, ℕ, List, map, Result, Ok, Err}
use Rattle.std.specs.declared.vec.Vec.{Vec}
use Rattle.std.specs.declared.alloc.Global.{Global}
use Rattle.gp_io.specs.Outside.{KnownFiles}
use Rattle.gp_memory.specs.Free.{Free}
use Rattle.gp_values.specs.Names.{Name}
use Rattle.gp_graph.specs.declared.graph.Graph.{Graph}
use Rattle.gp_syntax.specs.declared.found.Item.{Item}
use Rattle.gp_syntax.specs.declared.tree.Ast.{Ast}
use Rattle.gp_syntax.specs.declared.command.ProgramParts.{ProgramParts}
use Rattle.gp_syntax.specs.declared.rule.RuleParts.{RuleParts}
use Rattle.gp_syntax.specs.Tree.{program_of_tree, item_of}
use Rattle.gp_syntax.specs.Run.{Program}
use Rattle.gp_reader.specs.declared.fault.ProgramFault.{ProgramFault}
use Rattle.gp_reader.specs.Program.{HasTree, IsFaultyText, IsTreelessText}
use Rattle.gp_hostfile.specs.declared.fault.HostFault.{HostFault}
use Rattle.gp_hostfile.specs.Host.{IsHostText, IsHostFault}
use Rattle.gp_trace.specs.declared.version.Version.{Version}
use Rattle.gp_trace.specs.Reading.{IsTraceOf, BreaksAt}
use Rattle.gp_derivation.specs.declared.line.Line.{Line}
use Rattle.gp_derivation.specs.Script.{IsScript}
use Rattle.gp_derivation.specs.Script as script
use Rattle.gp_cli.specs.declared.said.Stop.{Stop}
use Rattle.gp_cli.specs.declared.said.Stop.TheVariants as stops
use Rattle.gp_cli.specs.Texts as texts
use Rattle.gp_cli.specs.Said.{said_of}
use Rattle.gp_cli.specs.Inputs.{HasBytes, HasLongFile, CannotRead, TellsProgram, HasProgram, HasProgramTree, HasHost, HasTrace, HasScript, StopsAtProgram, StopsAtTree, StopsAtHost, StopsAtTrace, StopsAtScript, OfBoth}

-- ---- files

-- the file is long and this is answered, or it cannot be read
pub data StopsAtFile (old new : KnownFiles) (name : Name) (long : texts.Said) : texts.Said → Type 0 where
  too_long : HasLongFile old.content name → StopsAtFile old new name long long
  unread : CannotRead old new name → StopsAtFile old new name long (texts.unread name)

abbrev pub ReadsFile : KnownFiles → KnownFiles → Name → texts.Said → Result (Vec ℕ Global) Stop → Type 0
ReadsFile old new name long (Ok v) = HasBytes old.content name v.items
ReadsFile old new name long (Err (stops.Said s)) = StopsAtFile old new name long (said_of s)
ReadsFile old new name long (Err stops.NoMemory) = Free

abbrev pub names_of : ProgramParts → List Name
names_of p = map (λ (r : RuleParts). r.name) p.rules

-- a program of the bytes, or its first fault
abbrev pub TellsOrFaults : List ℕ → Result ProgramParts Stop → Type 0
TellsOrFaults bytes (Ok p) = TellsProgram bytes (program_of_tree p) (names_of p)
TellsOrFaults bytes (Err (stops.Said s)) = (f : ProgramFault) × (said_of s ≡ texts.bad_program f) × IsFaultyText bytes f
TellsOrFaults bytes (Err stops.NoMemory) = Free

-- the tree of the bytes, or the fault by which they have none
abbrev pub TreesOrFaults : List ℕ → Result Ast Stop → Type 0
TreesOrFaults bytes (Ok tree) = HasTree bytes tree
TreesOrFaults bytes (Err (stops.Said s)) = (f : ProgramFault) × (said_of s ≡ texts.bad_program f) × IsTreelessText bytes f
TreesOrFaults bytes (Err stops.NoMemory) = Free

-- a host of the bytes, or its first fault
abbrev pub HostsOrFaults : List ℕ → Result Graph Stop → Type 0
HostsOrFaults bytes (Ok g) = IsHostText bytes g.graph
HostsOrFaults bytes (Err (stops.Said s)) = (f : HostFault) × (said_of s ≡ texts.bad_host f) × IsHostFault bytes f
HostsOrFaults bytes (Err stops.NoMemory) = Free

abbrev pub LoadsProgram : KnownFiles → KnownFiles → Name → Result ProgramParts Stop → Type 0
LoadsProgram old new name (Ok p) = HasProgram old.content name (program_of_tree p) (names_of p)
LoadsProgram old new name (Err (stops.Said s)) = StopsAtProgram old new name (said_of s)
LoadsProgram old new name (Err stops.NoMemory) = Free

abbrev pub LoadsTree : KnownFiles → KnownFiles → Name → Result Ast Stop → Type 0
LoadsTree old new name (Ok tree) = HasProgramTree old.content name tree
LoadsTree old new name (Err (stops.Said s)) = StopsAtTree old new name (said_of s)
LoadsTree old new name (Err stops.NoMemory) = Free

abbrev pub LoadsHost : KnownFiles → KnownFiles → Name → Result Graph Stop → Type 0
LoadsHost old new name (Ok g) = HasHost old.content name g.graph
LoadsHost old new name (Err (stops.Said s)) = StopsAtHost old new name (said_of s)
LoadsHost old new name (Err stops.NoMemory) = Free

-- in place of a program and a host
abbrev pub StopsAtBoth : KnownFiles → KnownFiles → Name → Name → texts.Said → Type 0
StopsAtBoth old new program host = OfBoth old new program host (λ p rule_names g said. ⊥)

-- a program and a host
abbrev pub AreBoth : KnownFiles → Name → Name → ProgramParts → Graph → Type 0
AreBoth old program host p g = HasProgram old.content program (program_of_tree p) (names_of p) × HasHost old.content host g.graph

abbrev pub LoadsBoth : KnownFiles → KnownFiles → Name → Name → Result (ProgramParts × Graph) Stop → Type 0
LoadsBoth old new program host (Ok t) = AreBoth old program host t.0 t.1
LoadsBoth old new program host (Err (stops.Said s)) = StopsAtBoth old new program host (said_of s)
LoadsBoth old new program host (Err stops.NoMemory) = Free

-- a program and a host of two texts, or the first fault of one
pub data FaultOfBoth (program host : List ℕ) : texts.Said → Type 0 where
  in_program : {f : ProgramFault} → IsFaultyText program f → FaultOfBoth program host (texts.bad_program f)
  in_host : {p : Program} {rule_names : List Name} {f : HostFault} → TellsProgram program p rule_names → IsHostFault host f → FaultOfBoth program host (texts.bad_host f)

abbrev pub BothOrFaults : List ℕ → List ℕ → Result (ProgramParts × Graph) Stop → Type 0
BothOrFaults program host (Ok t) = TellsProgram program (program_of_tree t.0) (names_of t.0) × IsHostText host t.1.graph
BothOrFaults program host (Err (stops.Said s)) = FaultOfBoth program host (said_of s)
BothOrFaults program host (Err stops.NoMemory) = Free

-- the items of the bytes, or the first line that is not of its form
abbrev pub TracesOrFaults : List ℕ → Result (Version × Vec Item Global) Stop → Type 0
TracesOrFaults bytes (Ok t) = IsTraceOf bytes t.0 (map item_of t.1.items)
TracesOrFaults bytes (Err (stops.Said s)) = (line : ℕ) × (said_of s ≡ texts.bad_trace line) × BreaksAt bytes line
TracesOrFaults bytes (Err stops.NoMemory) = Free

abbrev pub LoadsTrace : KnownFiles → KnownFiles → Name → Result (Version × Vec Item Global) Stop → Type 0
LoadsTrace old new name (Ok t) = HasTrace old.content name t.0 (map item_of t.1.items)
LoadsTrace old new name (Err (stops.Said s)) = StopsAtTrace old new name (said_of s)
LoadsTrace old new name (Err stops.NoMemory) = Free

-- the lines of the bytes, or the first that is no word of scripts
abbrev pub ScriptsOrFaults : List ℕ → Result (Vec Line Global) Stop → Type 0
ScriptsOrFaults bytes (Ok v) = IsScript bytes v.items
ScriptsOrFaults bytes (Err (stops.Said s)) = (line : ℕ) × (said_of s ≡ texts.bad_script line) × script.BreaksAt bytes line
ScriptsOrFaults bytes (Err stops.NoMemory) = Free

abbrev pub LoadsScript : KnownFiles → KnownFiles → Name → Result (Vec Line Global) Stop → Type 0
LoadsScript old new name (Ok v) = HasScript old.content name v.items
LoadsScript old new name (Err (stops.Said s)) = StopsAtScript old new name (said_of s)
LoadsScript old new name (Err stops.NoMemory) = Free
