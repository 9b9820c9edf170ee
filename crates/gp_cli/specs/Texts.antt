-- What is answered, and the status and the texts that tell it.
use Rattle.std.specs.Prelude.{ℕ, Bool, true, false, List, [], ◌++◌, codes}
use Rattle.std.specs.Fmt.{decimal}
use Rattle.gp_values.specs.Names.{Name}
use Rattle.gp_values.specs.Graph.{Graph}
use Rattle.gp_syntax.specs.declared.kinds.NumberKind.{NumberKind}
use Rattle.gp_syntax.specs.declared.kinds.NumberKind.TheVariants as kinds
use Rattle.gp_syntax.specs.Run.{Item}
use Rattle.gp_trace.specs.declared.version.Version.TheVariants.{Two}
use Rattle.gp_trace.specs.Reading.{IsTraceOf}
use Rattle.gp_reader.specs.declared.fault.ProgramFault.{ProgramFault}
use Rattle.gp_reader.specs.FaultLines.{line_of}
use Rattle.gp_hostfile.specs.declared.fault.HostFault.{HostFault}
use Rattle.gp_hostfile.specs.FaultLines as host
use Rattle.gp_hostfile.specs.GraphText.{IsGraphText}
use Rattle.gp_derivation.specs.Derivation.{fail_text}
use Rattle.gp_gen.specs.declared.kind.Kind.{Kind}
use Rattle.gp_words.specs.CommandLine.{DemoCommand}
use Rattle.gp_cli.specs.Summary.{summary_text}

-- an answer, apart from its text
pub data Said : Type 0 where
  -- the trace of a run, and the graph that it gives
  graph : List Item → Graph → Said
  failed : List Item → Said
  -- the kind and the size of a demo, the trace of its run, and the graph that it gives
  demo_done : Kind → ℕ → List Item → Graph → Said
  -- the trace and the result that are checked are a derivation, or are none
  derivation : Said
  no_derivation : Said
  -- the canonical text of a program
  formatted : List ℕ → Said
  -- what a script comes to over the items of a run
  walked : List ℕ → Said
  usage : Said
  long_program : Said
  bad_program : ProgramFault → Said
  long_host : Said
  bad_host : HostFault → Said
  long_trace : Said
  -- the first line that is not of the form of its place
  bad_trace : ℕ → Said
  long_result : Said
  long_script : Said
  -- the first line that is none of the words of scripts
  bad_script : ℕ → Said
  bound_spent : ℕ → Said
  -- the name of the rule
  number_fault : Name → NumberKind → Said
  -- the name of the file
  unread : Name → Said

-- in place of a graph a demo answers what it has done
abbrev pub of_demo_run : DemoCommand → Said → Said
of_demo_run k (graph t h) = demo_done k.kind k.size t h
of_demo_run k said = said

abbrev pub usage_text : List ℕ
usage_text =
    codes "usage: gp2 run PROGRAM HOST [--workers N] [--bound N] [--fan N] [--seed N] [--journal] [--batch N]\n"
    ++ (codes "       gp2 demo KIND SIZE SEED [--workers N] [--fan N] [--batch N]\n"
    ++ (codes "       gp2 check PROGRAM HOST TRACE RESULT\n"
    ++ (codes "       gp2 fmt PROGRAM\n"
    ++ codes "       gp2 step PROGRAM HOST SCRIPT [--bound N] [--seed N]\n")))

abbrev pub derivation_text : List ℕ
derivation_text = codes "derivation\n"

abbrev pub no_derivation_text : List ℕ
no_derivation_text = codes "no derivation\n"

abbrev pub program_too_long : List ℕ
program_too_long = codes "program: TooLong\n"

abbrev pub host_too_long : List ℕ
host_too_long = codes "host: TooLong\n"

abbrev pub trace_too_long : List ℕ
trace_too_long = codes "trace: TooLong\n"

abbrev pub trace_line : ℕ → List ℕ
trace_line line = codes "trace: Line " ++ decimal line ++ codes "\n"

abbrev pub result_too_long : List ℕ
result_too_long = codes "result: TooLong\n"

abbrev pub script_too_long : List ℕ
script_too_long = codes "script: TooLong\n"

abbrev pub script_line : ℕ → List ℕ
script_line line = codes "script: Line " ++ decimal line ++ codes "\n"

abbrev pub bound_text : ℕ → List ℕ
bound_text bound = codes "bound " ++ decimal bound ++ codes "\n"

abbrev pub kind_text : NumberKind → List ℕ
kind_text kinds.PastBits = codes "past-128-bits"
kind_text kinds.ZeroDivisor = codes "zero-divisor"

abbrev pub number_text : Name → NumberKind → List ℕ
number_text rule kind = codes "number " ++ rule ++ codes " " ++ kind_text kind ++ codes "\n"

abbrev pub read_text : Name → List ℕ
read_text name = codes "read: " ++ name ++ codes "\n"

-- the journal of these items, where it is asked for: their trace, which can be read back
pub data IsJournal (t : List Item) : Bool → List ℕ → Type 0 where
  asked_for : {text : List ℕ} → IsTraceOf text Two t → IsJournal t true text
  not_asked_for : IsJournal t false []

-- The status of an answer, its journal and its result, which go to out, and its text for err.
pub data Shows (asked : Bool) : Said → ℕ → List ℕ → List ℕ → List ℕ → Type 0 where
  graph_shown : {t : List Item} {h : Graph} {journal text : List ℕ} → IsJournal t asked journal → IsGraphText h text → Shows asked (graph t h) 0 journal text []
  fail_shown : {t : List Item} {journal : List ℕ} → IsJournal t asked journal → Shows asked (failed t) 1 journal fail_text []
  demo_shown : {kind : Kind} {size : ℕ} {t : List Item} {h : Graph} → Shows asked (demo_done kind size t h) 0 [] (summary_text kind size h t) []
  derivation_shown : Shows asked derivation 0 [] derivation_text []
  no_derivation_shown : Shows asked no_derivation 1 [] no_derivation_text []
  formatted_shown : {text : List ℕ} → Shows asked (formatted text) 0 [] text []
  walked_shown : {text : List ℕ} → Shows asked (walked text) 0 [] text []
  usage_shown : Shows asked usage 2 [] [] usage_text
  long_program_shown : Shows asked long_program 3 [] [] program_too_long
  bad_program_shown : {f : ProgramFault} → Shows asked (bad_program f) 3 [] [] (line_of f)
  long_host_shown : Shows asked long_host 4 [] [] host_too_long
  bad_host_shown : {f : HostFault} → Shows asked (bad_host f) 4 [] [] (host.line_of f)
  long_trace_shown : Shows asked long_trace 10 [] [] trace_too_long
  bad_trace_shown : {line : ℕ} → Shows asked (bad_trace line) 10 [] [] (trace_line line)
  long_result_shown : Shows asked long_result 10 [] [] result_too_long
  long_script_shown : Shows asked long_script 11 [] [] script_too_long
  bad_script_shown : {line : ℕ} → Shows asked (bad_script line) 11 [] [] (script_line line)
  bound_shown : {bound : ℕ} → Shows asked (bound_spent bound) 5 [] [] (bound_text bound)
  number_shown : {rule : Name} {kind : NumberKind} → Shows asked (number_fault rule kind) 6 [] [] (number_text rule kind)
  unread_shown : {name : Name} → Shows asked (unread name) 8 [] [] (read_text name)
