-- From what is read of the files to what is answered in their place.
use Rattle.std.proofs.Common.{◌≡◌, ℕ, ◌≤◌, List, sym, subst, arith, inl, inr}
use Rattle.std.specs.Prelude.{◌⊎◌, Option, Result, Ok, Err}
use Rattle.std.specs.declared.vec.Vec.{Vec}
use Rattle.std.specs.declared.alloc.Global.{Global}
use Rattle.gp_memory.specs.Free.{Free}
use Rattle.gp_io.specs.Outside.{Content, KnownFiles, Rose, LacksFile}
use Rattle.gp_values.specs.Names.{Name}
use Rattle.gp_values.specs.Graph.{Graph as AnyGraph}
use Rattle.gp_syntax.specs.declared.found.Item.{Item}
use Rattle.gp_syntax.specs.declared.tree.Ast.{Ast}
use Rattle.gp_syntax.specs.declared.command.ProgramParts.{ProgramParts}
use Rattle.gp_syntax.specs.Run as meant
use Rattle.gp_trace.specs.declared.version.Version.{Version}
use Rattle.gp_derivation.specs.declared.line.Line.{Line}
use Rattle.gp_graph.specs.declared.graph.Graph.{Graph}
use Rattle.gp_cli.specs.declared.said.Stop.{Stop}
use Rattle.gp_cli.specs.declared.said.Stop.TheVariants as stops
use Rattle.gp_cli.specs.Texts as texts
use Rattle.gp_cli.specs.Inputs.{HasBytes, HasLongFile, HasTrace, HasScript, CannotRead, risen, lacking, StopsAtProgram, program_is_long, program_is_bad, program_is_unread, StopsAtTree, tree_is_long, tree_is_none, tree_is_unread, StopsAtHost, host_is_long, host_is_bad, host_is_unread, StopsAtTrace, trace_is_long, trace_is_bad, trace_is_unread, StopsAtResult, result_is_long, result_is_unread, StopsAtScript, script_is_long, script_is_bad, script_is_unread, OfBoth, at_program, at_host, behind_both}
use Rattle.gp_cli.specs.Loads.{StopsAtFile, too_long, unread, StopsAtBoth, TellsOrFaults, TreesOrFaults, HostsOrFaults, TracesOrFaults, ScriptsOrFaults, LoadsProgram, LoadsTree, LoadsHost, LoadsTrace, LoadsScript}
use Rattle.gp_cli.specs.Said.{said_of}

pub read_cause : (old new : KnownFiles) (name : Name) → Rose old.faults new.faults ⊎ (LacksFile old.content name × (new.faults ≡ old.faults)) → CannotRead old new name
read_cause old new name (inl r) = risen r
read_cause old new name (inr l) = lacking l.0

-- ---- what holds of an answer in place of a file, where memory is not refused

abbrev pub IfStopped : (texts.Said → Type 0) → Stop → Type 0
IfStopped P (stops.Said s) = P (said_of s)
IfStopped P stops.NoMemory = Free

module _ (P Q : texts.Said → Type 0) (so : (said : texts.Said) → P said → Q said) where
  pub stopped_so : (e : Stop) → IfStopped P e → IfStopped Q e
  stopped_so (stops.Said s) h = so (said_of s) h
  stopped_so stops.NoMemory h = tt

-- ---- what stops at a file stops at what it is read for

module _ {old new : KnownFiles} {name : Name} where
  pub program_stop : (said : texts.Said) → StopsAtFile old new name texts.long_program said → StopsAtProgram old new name said
  program_stop _ (too_long f) = program_is_long f
  program_stop _ (unread u) = program_is_unread u

  pub tree_stop : (said : texts.Said) → StopsAtFile old new name texts.long_program said → StopsAtTree old new name said
  tree_stop _ (too_long f) = tree_is_long f
  tree_stop _ (unread u) = tree_is_unread u

  pub host_stop : (said : texts.Said) → StopsAtFile old new name texts.long_host said → StopsAtHost old new name said
  host_stop _ (too_long f) = host_is_long f
  host_stop _ (unread u) = host_is_unread u

  pub trace_stop : (said : texts.Said) → StopsAtFile old new name texts.long_trace said → StopsAtTrace old new name said
  trace_stop _ (too_long f) = trace_is_long f
  trace_stop _ (unread u) = trace_is_unread u

  pub result_stop : (said : texts.Said) → StopsAtFile old new name texts.long_result said → StopsAtResult old new name said
  result_stop _ (too_long f) = result_is_long f
  result_stop _ (unread u) = result_is_unread u

  pub script_stop : (said : texts.Said) → StopsAtFile old new name texts.long_script said → StopsAtScript old new name said
  script_stop _ (too_long f) = script_is_long f
  script_stop _ (unread u) = script_is_unread u

  -- and in place of both files so does what stops at one
  pub both_stop : {host : Name} {Rest : meant.Program → List Name → AnyGraph → texts.Said → Type 0} (said : texts.Said) → StopsAtBoth old new name host said → OfBoth old new name host Rest said
  both_stop _ (at_program x) = at_program x
  both_stop _ (at_host h x) = at_host h x
  both_stop _ (behind_both _ _ x) = absurd x

-- ---- what was read of a file is understood

module _ (old new : KnownFiles) (name : Name) (bytes : List ℕ) where
  pub program_loads : (r : Result ProgramParts Stop) → HasBytes old.content name bytes → TellsOrFaults bytes r → LoadsProgram old new name r
  program_loads (Ok p) has t = record { bytes = bytes; has = has; tells = t }
  program_loads (Err (stops.Said s)) has t = subst (StopsAtProgram old new name) (sym t.1) (program_is_bad has t.2)
  program_loads (Err stops.NoMemory) has t = tt

  pub tree_loads : (r : Result Ast Stop) → HasBytes old.content name bytes → TreesOrFaults bytes r → LoadsTree old new name r
  tree_loads (Ok tree) has t = record { bytes = bytes; has = has; has_tree = t }
  tree_loads (Err (stops.Said s)) has t = subst (StopsAtTree old new name) (sym t.1) (tree_is_none has t.2)
  tree_loads (Err stops.NoMemory) has t = tt

  pub host_loads : (r : Result Graph Stop) → HasBytes old.content name bytes → HostsOrFaults bytes r → LoadsHost old new name r
  host_loads (Ok g) has t = record { bytes = bytes; has = has; text = t }
  host_loads (Err (stops.Said s)) has t = subst (StopsAtHost old new name) (sym t.1) (host_is_bad has t.2)
  host_loads (Err stops.NoMemory) has t = tt

  pub trace_loads : (r : Result (Version × Vec Item Global) Stop) → HasBytes old.content name bytes → TracesOrFaults bytes r → LoadsTrace old new name r
  trace_loads (Ok x) has t = record { bytes = bytes; has = has; text = t }
  trace_loads (Err (stops.Said s)) has t = subst (StopsAtTrace old new name) (sym t.1) (trace_is_bad has t.2)
  trace_loads (Err stops.NoMemory) has t = tt

  pub script_loads : (r : Result (Vec Line Global) Stop) → HasBytes old.content name bytes → ScriptsOrFaults bytes r → LoadsScript old new name r
  script_loads (Ok v) has t = record { bytes = bytes; has = has; text = t }
  script_loads (Err (stops.Said s)) has t = subst (StopsAtScript old new name) (sym t.1) (script_is_bad has t.2)
  script_loads (Err stops.NoMemory) has t = tt

-- ---- a count that rose since a later time has risen since an earlier one, and the content is the same at both

lacks_since : {before now : Option Content} (same : now ≡ before) (name : Name) → LacksFile now name → LacksFile before name
lacks_since same name l = subst (λ (t : Option Content). LacksFile t name) same l

module _ {before now : Option Content} (same : now ≡ before) {name : Name} where
  long_since : HasLongFile now name → HasLongFile before name
  long_since f = subst (λ (t : Option Content). HasLongFile t name) same f

  pub bytes_since : {bytes : List ℕ} → HasBytes now name bytes → HasBytes before name bytes
  bytes_since {bytes} b = subst (λ (t : Option Content). HasBytes t name bytes) same b

  pub has_trace_since : {version : Version} {items : List meant.Item} → HasTrace now name version items → HasTrace before name version items
  has_trace_since {version} {items} h = subst (λ (t : Option Content). HasTrace t name version items) same h

  pub has_script_since : {lines : List Line} → HasScript now name lines → HasScript before name lines
  has_script_since {lines} h = subst (λ (t : Option Content). HasScript t name lines) same h

module _ {old mid new : KnownFiles} (same : mid.content ≡ old.content) (later : old.faults ≤ mid.faults) where
  cannot_since : {name : Name} → CannotRead mid new name → CannotRead old new name
  cannot_since (risen r) = risen (omega arith)
  cannot_since {name} (lacking l) = lacking (lacks_since same name l)

  pub host_since : {name : Name} (said : texts.Said) → StopsAtHost mid new name said → StopsAtHost old new name said
  host_since _ (host_is_long f) = host_is_long (long_since same f)
  host_since _ (host_is_bad b x) = host_is_bad (bytes_since same b) x
  host_since _ (host_is_unread u) = host_is_unread (cannot_since u)

  pub trace_since : {name : Name} {said : texts.Said} → StopsAtTrace mid new name said → StopsAtTrace old new name said
  trace_since (trace_is_long f) = trace_is_long (long_since same f)
  trace_since (trace_is_bad b x) = trace_is_bad (bytes_since same b) x
  trace_since (trace_is_unread u) = trace_is_unread (cannot_since u)

  pub result_since : {name : Name} (said : texts.Said) → StopsAtResult mid new name said → StopsAtResult old new name said
  result_since _ (result_is_long f) = result_is_long (long_since same f)
  result_since _ (result_is_unread u) = result_is_unread (cannot_since u)

  pub script_since : {name : Name} (said : texts.Said) → StopsAtScript mid new name said → StopsAtScript old new name said
  script_since _ (script_is_long f) = script_is_long (long_since same f)
  script_since _ (script_is_bad b x) = script_is_bad (bytes_since same b) x
  script_since _ (script_is_unread u) = script_is_unread (cannot_since u)
