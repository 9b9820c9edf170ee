-- Texts that are refused.
use Rattle.std.proofs.Common.{◌≡◌, ℕ, List, refl, sym, subst}
use Rattle.std.specs.Prelude.{Err}
use Rattle.gp_hostfile.specs.declared.fault.HostFault.{HostFault}
use Rattle.gp_hostfile.specs.declared.fault.HostFault.TheVariants as faults
use Rattle.gp_reader.specs.declared.fault.ProgramFault.{ProgramFault}
use Rattle.gp_reader.specs.declared.fault.ProgramFault.TheVariants as faulty
use Rattle.gp_reader.specs.Program as program
use Rattle.gp_trace.specs.declared.fault.TraceFault.{TraceFault}
use Rattle.gp_trace.specs.declared.fault.TraceFault.TheVariants as breaks
use Rattle.gp_trace.specs.Reading.{HasFault}
use Rattle.gp_derivation.specs.declared.script_fault.ScriptFault.{ScriptFault}
use Rattle.gp_derivation.specs.declared.script_fault.ScriptFault.TheVariants as unread
use Rattle.gp_derivation.specs.Script as script
use Rattle.gp_values.specs.Names.{Name}
use Rattle.gp_syntax.specs.Run.{Program}
use Rattle.gp_hostfile.specs.Host.{IsRefusal, IsHostFault}
use Rattle.gp_reader.specs.Program.{IsFaultyText}
use Rattle.gp_cli.specs.Texts as texts
use Rattle.gp_cli.specs.Inputs.{TellsProgram}
use Rattle.gp_cli.specs.Loads.{FaultOfBoth, in_program, in_host, HostsOrFaults, TellsOrFaults, TreesOrFaults, TracesOrFaults, ScriptsOrFaults}
use Rattle.gp_cli.specs.Said.{host_refused, program_refused, trace_refused, script_refused}

-- ---- what is refused

pub host_faults : (bytes : List ℕ) (e : HostFault) → IsRefusal bytes e → HostsOrFaults bytes (Err (host_refused e))
host_faults bytes (faults.Lex x) h = (faults.Lex x, refl, h)
host_faults bytes (faults.Syntax k) h = (faults.Syntax k, refl, h)
host_faults bytes (faults.NumberRange k) h = (faults.NumberRange k, refl, h)
host_faults bytes (faults.TwoNodes n) h = (faults.TwoNodes n, refl, h)
host_faults bytes (faults.TwoEdges n) h = (faults.TwoEdges n, refl, h)
host_faults bytes (faults.NoSuchEnd n) h = (faults.NoSuchEnd n, refl, h)
host_faults bytes (faults.WrongMark n) h = (faults.WrongMark n, refl, h)
host_faults bytes faults.NoMemory h = tt

pub program_faults : (bytes : List ℕ) (e : ProgramFault) → program.IsRefusal bytes e → TellsOrFaults bytes (Err (program_refused e))
program_faults bytes (faulty.Lex x) h = (faulty.Lex x, refl, h)
program_faults bytes (faulty.TooDeep k) h = (faulty.TooDeep k, refl, h)
program_faults bytes (faulty.Syntax k) h = (faulty.Syntax k, refl, h)
program_faults bytes (faulty.NumberRange k) h = (faulty.NumberRange k, refl, h)
program_faults bytes (faulty.Scope x) h = (faulty.Scope x, refl, h)
program_faults bytes (faulty.Rule n x) h = (faulty.Rule n x, refl, h)
program_faults bytes faulty.NoMemory h = tt

-- want of memory is no fault of a text
pub tree_faults : (bytes : List ℕ) (e : ProgramFault) → program.IsTreeRefusal bytes e → TreesOrFaults bytes (Err (program_refused e))
tree_faults bytes (faulty.Lex x) h = (faulty.Lex x, refl, h)
tree_faults bytes (faulty.TooDeep k) h = (faulty.TooDeep k, refl, h)
tree_faults bytes (faulty.Syntax k) h = (faulty.Syntax k, refl, h)
tree_faults bytes (faulty.NumberRange k) h = (faulty.NumberRange k, refl, h)
tree_faults bytes (faulty.Scope x) h = absurd h
tree_faults bytes (faulty.Rule n x) h = absurd h
tree_faults bytes faulty.NoMemory h = tt

pub trace_faults : (bytes : List ℕ) (e : TraceFault) → HasFault bytes e → TracesOrFaults bytes (Err (trace_refused e))
trace_faults bytes (breaks.Line k) h = (k, refl, h)
trace_faults bytes breaks.NoMemory h = tt

pub script_faults : (bytes : List ℕ) (e : ScriptFault) → script.HasFault bytes e → ScriptsOrFaults bytes (Err (script_refused e))
script_faults bytes (unread.Line k) h = (k, refl, h)
script_faults bytes unread.NoMemory h = tt

-- ---- two texts

module _ (program host : List ℕ) where
  pub in_program_stop : (said : texts.Said) → (f : ProgramFault) × (said ≡ texts.bad_program f) × IsFaultyText program f → FaultOfBoth program host said
  in_program_stop _ h = subst (FaultOfBoth program host) (sym h.1) (in_program h.2)

  pub in_host_stop : {p : Program} {names : List Name} → TellsProgram program p names → (said : texts.Said) → (f : HostFault) × (said ≡ texts.bad_host f) × IsHostFault host f → FaultOfBoth program host said
  in_host_stop t _ h = subst (FaultOfBoth program host) (sym h.1) (in_host t h.2)
