-- The small steps of commands (Plump 2012, section 4: the semantic inference rules), with what this language adds: `break`,
-- and procedures. A reader can put this beside the rules there: each constructor has the name of its rule. One of them is
-- stricter here: call2 wants that no match is faulty either, and not only that none applies.
use Rattle.std.specs.Prelude.{◌≡◌, ℕ, List, Some, slice_get}
use Rattle.gp_values.specs.Graph.{Graph}
use Rattle.gp_syntax.specs.Rule.{Found}
use Rattle.gp_syntax.specs.Step.{CallsTo, Blocked}
use Rattle.gp_syntax.specs.Run.{Command, Program, Call, Seq, If, Try, Loop, Or, Skip, Fail, Break, Procedure}

-- a configuration: a graph with a command that is still to run on it, a graph alone, or `fail`
pub data Configuration : Type 0 where
  Rest : Command → Graph → Configuration
  Result : Graph → Configuration
  Failed : Configuration

mutual
  -- one step, from a command and a graph
  pub data Transition (program : Program) : Command → Graph → Configuration → Type 0 where
    call1 : {c : ℕ} {set : List ℕ} {g h : Graph} {m : Found} → slice_get program.sets c ≡ Some set → CallsTo program.rules set g m h → Transition program (Call c) g (Result h)
    call2 : {c : ℕ} {set : List ℕ} {g : Graph} → slice_get program.sets c ≡ Some set → Blocked program.rules set g → Transition program (Call c) g Failed
    seq1 : {p q r : Command} {g h : Graph} → Transition program p g (Rest r h) → Transition program (Seq p q) g (Rest (Seq r q) h)
    seq2 : {p q : Command} {g h : Graph} → Transition program p g (Result h) → Transition program (Seq p q) g (Rest q h)
    seq3 : {p q : Command} {g : Graph} → Transition program p g Failed → Transition program (Seq p q) g Failed
    «break» : {q : Command} {g : Graph} → Transition program (Seq Break q) g (Rest Break g)
    if1 : {k p q : Command} {g h : Graph} → Reaches program k g (Result h) → Transition program (If k p q) g (Rest p g)
    if2 : {k p q : Command} {g : Graph} → Reaches program k g Failed → Transition program (If k p q) g (Rest q g)
    try1 : {k p q : Command} {g h : Graph} → Reaches program k g (Result h) → Transition program (Try k p q) g (Rest p h)
    try2 : {k p q : Command} {g : Graph} → Reaches program k g Failed → Transition program (Try k p q) g (Rest q g)
    alap1 : {p : Command} {g h : Graph} → Reaches program p g (Result h) → Transition program (Loop p) g (Rest (Loop p) h)
    alap2 : {p : Command} {g : Graph} → Reaches program p g Failed → Transition program (Loop p) g (Result g)
    alap3 : {p : Command} {g h : Graph} → StaysOrReaches program p g (Rest Break h) → Transition program (Loop p) g (Result h)
    or1 : {p q : Command} {g : Graph} → Transition program (Or p q) g (Rest p g)
    or2 : {p q : Command} {g : Graph} → Transition program (Or p q) g (Rest q g)
    procedure : {k : ℕ} {body : Command} {g : Graph} → slice_get program.procedures k ≡ Some body → Transition program (Procedure k) g (Rest body g)
    skip : {g : Graph} → Transition program Skip g (Result g)
    fail : {g : Graph} → Transition program Fail g Failed

  -- one step or more: the relation `->+`
  pub data Reaches (program : Program) : Command → Graph → Configuration → Type 0 where
    one : {p : Command} {g : Graph} {x : Configuration} → Transition program p g x → Reaches program p g x
    more : {p q : Command} {g h : Graph} {x : Configuration} → Transition program p g (Rest q h) → Reaches program q h x → Reaches program p g x

  -- no step or more: the relation `->*`
  pub data StaysOrReaches (program : Program) : Command → Graph → Configuration → Type 0 where
    stays : {p : Command} {g : Graph} → StaysOrReaches program p g (Rest p g)
    reaches : {p : Command} {g : Graph} {x : Configuration} → Reaches program p g x → StaysOrReaches program p g x
