-- The words of the command line, and the command that they are.
use Rattle.std.specs.Prelude.{ℕ, ◌^◌, ◌&&◌, ◌-◌, nat_le, Bool, false, true, if◌then◌else◌, List, [], ◌∷◌, Option, Some, None, codes, option_and_then}
use Rattle.std.specs.Str.{all_ascii_digits}
use Rattle.std.specs.Str.Parse.{digits_value}
use Rattle.clap.specs.Words.{App, Row, Rule, new_app, new_rule, with_rule, with_subcommand, first_of, subcommand_of, fault_of}
use Rattle.clap.specs.declared.builder.action.ArgAction.TheVariants.{Set, SetTrue}
use Rattle.gp_values.specs.Names.{Name, same_name}
use Rattle.gp_gen.specs.declared.kind.Kind.{Kind}
use Rattle.gp_gen.specs.declared.kind.Kind.TheVariants.{Closure, Colour, Tree}
use Rattle.gp_gen.specs.Host.{largest}

-- how many workers there are, how many candidates they are wanted for, and how many matches one may offer in a turn
pub record CrewOptions : Type 0 where
  pub workers : ℕ
  pub fan : ℕ
  pub batch : ℕ

-- `run`: the names of the program's file and of the host's, how many items may be counted, with what the choices of `or`
-- begin, whether the journal is wanted, and its workers
pub record RunCommand : Type 0 where
  pub program : Name
  pub host : Name
  pub bound : ℕ
  pub seed : ℕ
  pub journal : Bool
  pub crew : CrewOptions

-- `demo`: the kind of the workload, its size, the seed of its host, and its workers
pub record DemoCommand : Type 0 where
  pub kind : Kind
  pub size : ℕ
  pub seed : ℕ
  pub crew : CrewOptions

-- `check`: the names of the files of the program, of the host, of the trace and of the result
pub record CheckCommand : Type 0 where
  pub program : Name
  pub host : Name
  pub trace : Name
  pub result : Name

-- `fmt`: the name of the program's file
pub record FmtCommand : Type 0 where
  pub program : Name

-- `step`: the names of the files of the program, of the host and of the script, how many items may be counted, and with
-- what the choices of `or` begin
pub record StepCommand : Type 0 where
  pub program : Name
  pub host : Name
  pub script : Name
  pub bound : ℕ
  pub seed : ℕ

pub data Command : Type 0 where
  run : RunCommand → Command
  demo : DemoCommand → Command
  check : CheckCommand → Command
  fmt : FmtCommand → Command
  step : StepCommand → Command

-- ---- as clap reads them

-- a word in its place, which has to be there
abbrev pub place : Name → Rule
place id = record (new_rule id) { action = Some Set; required = true }

-- `--NAME VALUE`
abbrev pub option : Name → Rule
option id = record (new_rule id) { long = Some id; action = Some Set }

-- `--NAME`
abbrev pub flag : Name → Rule
flag id = record (new_rule id) { long = Some id; action = Some SetTrue }

-- the options of `run` and of `demo`
abbrev pub with_crew : App → App
with_crew app = with_rule (with_rule (with_rule app (option (codes "workers"))) (option (codes "fan"))) (option (codes "batch"))

-- `run PROGRAM HOST`, with its options in any order
abbrev pub run_app : App
run_app = with_crew (with_rule (with_rule (with_rule (with_rule (with_rule (new_app (codes "run")) (place (codes "program"))) (place (codes "host"))) (option (codes "bound"))) (option (codes "seed"))) (flag (codes "journal")))

-- `demo KIND SIZE SEED`, likewise
abbrev pub demo_app : App
demo_app = with_crew (with_rule (with_rule (with_rule (new_app (codes "demo")) (place (codes "kind"))) (place (codes "size"))) (place (codes "seed")))

-- `check PROGRAM HOST TRACE RESULT`
abbrev pub check_app : App
check_app = with_rule (with_rule (with_rule (with_rule (new_app (codes "check")) (place (codes "program"))) (place (codes "host"))) (place (codes "trace"))) (place (codes "result"))

-- `fmt PROGRAM`
abbrev pub fmt_app : App
fmt_app = with_rule (new_app (codes "fmt")) (place (codes "program"))

-- `step PROGRAM HOST SCRIPT`, with its options in any order
abbrev pub step_app : App
step_app = with_rule (with_rule (with_rule (with_rule (with_rule (new_app (codes "step")) (place (codes "program"))) (place (codes "host"))) (place (codes "script"))) (option (codes "bound"))) (option (codes "seed"))

-- one level of commands, read behind the name of the program
abbrev pub top : App
top = record { top = record (new_app (codes "gp2")).top { no_binary_name = true; subcommand_required = true }; subs = [] }

abbrev pub gp2 : App
gp2 = with_subcommand (with_subcommand (with_subcommand (with_subcommand (with_subcommand top run_app.top) demo_app.top) check_app.top) fmt_app.top) step_app.top

-- ---- numbers

-- one decimal digit or more, and nothing else
abbrev pub is_numeral : Name → Bool
is_numeral [] = false
is_numeral (d ∷ ds) = all_ascii_digits (d ∷ ds)

abbrev pub is_between : ℕ → ℕ → ℕ → Bool
is_between least most n = nat_le least n && nat_le n most

-- the number that is written, where it is in this range
abbrev pub number_between : ℕ → ℕ → Name → Option ℕ
number_between least most ds = if is_numeral ds && is_between least most (digits_value 10 ds) then Some (digits_value 10 ds) else None

-- the value that is written, or the usual one where none is
abbrev pub value_or : ℕ → ℕ → ℕ → Option Name → Option ℕ
value_or usual least most None = Some usual
value_or usual least most (Some word) = number_between least most word

-- ---- the values of a command

abbrev pub usual_bound : ℕ
usual_bound = 1000000

abbrev pub greatest_bound : ℕ
greatest_bound = 2 ^ 40

abbrev pub usual_seed : ℕ
usual_seed = 0

abbrev pub greatest_seed : ℕ
greatest_seed = 2 ^ 64 - 1

abbrev pub usual_workers : ℕ
usual_workers = 1

abbrev pub greatest_workers : ℕ
greatest_workers = 64

abbrev pub usual_fan : ℕ
usual_fan = 64

abbrev pub greatest_fan : ℕ
greatest_fan = 2 ^ 32 - 1

abbrev pub usual_batch : ℕ
usual_batch = 1

abbrev pub greatest_batch : ℕ
greatest_batch = 64

abbrev pub kind_name : Kind → Name
kind_name Closure = codes "closure"
kind_name Colour = codes "colour"
kind_name Tree = codes "tree"

abbrev pub is_named : Kind → Name → Bool
is_named kind word = same_name word (kind_name kind)

-- the kind of that name
abbrev pub kind_named : Name → Option Kind
kind_named word = if is_named Closure word then Some Closure else (if is_named Colour word then Some Colour else (if is_named Tree word then Some Tree else None))

abbrev pub is_set : Option Name → Bool
is_set None = false
is_set (Some word) = same_name word (codes "true")

-- what clap found under the name
abbrev pub workers_of : List Row → Option ℕ
workers_of rows = value_or usual_workers 1 greatest_workers (first_of (codes "workers") rows)

abbrev pub fan_of : List Row → Option ℕ
fan_of rows = value_or usual_fan 1 greatest_fan (first_of (codes "fan") rows)

abbrev pub batch_of : List Row → Option ℕ
batch_of rows = value_or usual_batch 1 greatest_batch (first_of (codes "batch") rows)

abbrev pub crew_with : Option ℕ → Option ℕ → Option ℕ → Option CrewOptions
crew_with (Some workers) (Some fan) (Some batch) = Some (record { workers = workers; fan = fan; batch = batch })
crew_with workers fan batch = None

abbrev pub crew_of : List Row → Option CrewOptions
crew_of rows = crew_with (workers_of rows) (fan_of rows) (batch_of rows)

abbrev pub bound_of : List Row → Option ℕ
bound_of rows = value_or usual_bound 0 greatest_bound (first_of (codes "bound") rows)

abbrev pub seed_of : List Row → Option ℕ
seed_of rows = value_or usual_seed 0 greatest_seed (first_of (codes "seed") rows)

-- ---- the command

abbrev pub run_with : Name → Name → Bool → Option ℕ → Option ℕ → Option CrewOptions → Option Command
run_with program host journal (Some bound) (Some seed) (Some crew) =
    Some (run (record { program = program; host = host; bound = bound; seed = seed; journal = journal; crew = crew }))
run_with program host journal bound seed crew = None

abbrev pub run_files : List Row → Option Name → Option Name → Option Command
run_files rows (Some program) (Some host) =
    run_with program host (is_set (first_of (codes "journal") rows)) (bound_of rows) (seed_of rows) (crew_of rows)
run_files rows program host = None

-- what clap found at `run`
abbrev pub run_of : List Row → Option Command
run_of rows = run_files rows (first_of (codes "program") rows) (first_of (codes "host") rows)

abbrev pub demo_with : Kind → Option ℕ → Option ℕ → Option CrewOptions → Option Command
demo_with kind (Some size) (Some seed) (Some crew) = Some (demo (record { kind = kind; size = size; seed = seed; crew = crew }))
demo_with kind size seed crew = None

abbrev pub demo_words : List Row → Option Name → Option Name → Option Name → Option Command
demo_words rows (Some kind) (Some size) (Some seed) =
    option_and_then (λ (k : Kind). demo_with k (number_between 1 (largest k) size) (number_between 0 greatest_seed seed) (crew_of rows)) (kind_named kind)
demo_words rows kind size seed = None

-- what clap found at `demo`
abbrev pub demo_of : List Row → Option Command
demo_of rows = demo_words rows (first_of (codes "kind") rows) (first_of (codes "size") rows) (first_of (codes "seed") rows)

abbrev pub check_files : Option Name → Option Name → Option Name → Option Name → Option Command
check_files (Some program) (Some host) (Some trace) (Some result) = Some (check (record { program = program; host = host; trace = trace; result = result }))
check_files program host trace result = None

-- what clap found at `check`
abbrev pub check_of : List Row → Option Command
check_of rows = check_files (first_of (codes "program") rows) (first_of (codes "host") rows) (first_of (codes "trace") rows) (first_of (codes "result") rows)

abbrev pub fmt_file : Option Name → Option Command
fmt_file (Some program) = Some (fmt (record { program = program }))
fmt_file None = None

-- what clap found at `fmt`
abbrev pub fmt_of : List Row → Option Command
fmt_of rows = fmt_file (first_of (codes "program") rows)

abbrev pub step_with : Name → Name → Name → Option ℕ → Option ℕ → Option Command
step_with program host script (Some bound) (Some seed) = Some (step (record { program = program; host = host; script = script; bound = bound; seed = seed }))
step_with program host script bound seed = None

abbrev pub step_files : List Row → Option Name → Option Name → Option Name → Option Command
step_files rows (Some program) (Some host) (Some script) = step_with program host script (bound_of rows) (seed_of rows)
step_files rows program host script = None

-- what clap found at `step`
abbrev pub step_of : List Row → Option Command
step_of rows = step_files rows (first_of (codes "program") rows) (first_of (codes "host") rows) (first_of (codes "script") rows)

-- what clap found at the command of this name
abbrev pub command_at : Name × List Row → Option Command
command_at p =
    if same_name p.0 (codes "run") then run_of p.1 else
    (if same_name p.0 (codes "demo") then demo_of p.1 else
    (if same_name p.0 (codes "check") then check_of p.1 else
    (if same_name p.0 (codes "fmt") then fmt_of p.1 else
    (if same_name p.0 (codes "step") then step_of p.1 else None))))

abbrev pub command_if : Bool → List Name → Option Command
command_if refused words = if refused then None else option_and_then command_at (subcommand_of gp2 words)

abbrev pub has_some : {A : Type 0} → List A → Bool
has_some [] = false
has_some (x ∷ xs) = true

-- the command that the words are, where clap refuses nothing of them and the numbers are in range
unfoldable pub command_of : List Name → Option Command
command_of words = command_if (has_some (fault_of gp2 words)) words
