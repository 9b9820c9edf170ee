-- How runs end, and what is said of it.
use Rattle.std.specs.Prelude.{◌≡◌, ℕ, ◌<◌, Bool, false, List, Some, slice_get}
use Rattle.rand_pcg.specs.Lcg.{Lcg}
use Rattle.rand_pcg.specs.Pcg.{pcg32}
use Rattle.gp_values.specs.Names.{Name}
use Rattle.gp_values.specs.Graph.{Graph}
use Rattle.gp_syntax.specs.Rule.{Rule}
use Rattle.gp_syntax.specs.Run.{Program, Item}
use Rattle.gp_journal.specs.Trail.{Trail, fresh}
use Rattle.gp_journal.specs.Leads.{Leads}
use Rattle.gp_journal.specs.Journal.{Kept, items_of}
use Rattle.gp_system.specs.declared.outcome.Ran.{Ran}
use Rattle.gp_system.specs.declared.outcome.Outcome.{Outcome}
use Rattle.gp_system.specs.declared.outcome.Outcome.TheVariants as outcome
use Rattle.gp_system.specs.Ended.{HasEnded, items_left}
use Rattle.gp_derivation.specs.declared.line.Line.{Line}
use Rattle.gp_derivation.specs.Walk.{Walks}
use Rattle.gp_words.specs.CommandLine.{DemoCommand}
use Rattle.gp_cli.specs.declared.said.Said.{Said}
use Rattle.gp_cli.specs.declared.said.Said.TheVariants as code
use Rattle.gp_cli.specs.Choices.{is_odd, seeded}
use Rattle.gp_cli.specs.Texts as texts
use Rattle.gp_cli.specs.Answer.{demo_bound}
use Rattle.gp_cli.specs.Said.{Tells}

-- ---- how runs end

-- a run of the program on the host, with the choices of the seed, ends so
pub record EndsSeeded (seed : ℕ) (p : Program) (host : Graph) (bound : ℕ) (keeps : Bool) (o : Outcome) : Type 0 where
  pub last : Lcg
  pub ended : HasEnded (λ (s : Lcg). is_odd (pcg32 s).0) (λ (s : Lcg). (pcg32 s).1) p host bound keeps (seeded seed) last o

-- the rule of a faulty match is one of so many
abbrev pub HasRule : ℕ → Outcome → Type 0
HasRule count (outcome.Fault r rule kind) = rule < count
HasRule count other = Unit {0}

-- the items that a run left are there, and lead on from the host
pub record CanWalk (rules : List Rule) (host : Graph) (r : Ran) : Type 0 where
  pub kept : Kept
  pub items : r.items ≡ Some kept
  pub end : Trail
  pub leads : Leads rules (items_of kept.items) (fresh host) end

-- where the run ended with a graph or by fail
abbrev pub CanWalkEnd : List Rule → Graph → Outcome → Type 0
CanWalkEnd rules host (outcome.Graph r) = CanWalk rules host r
CanWalkEnd rules host (outcome.Fail r) = CanWalk rules host r
CanWalkEnd rules host other = Unit {0}

-- ---- what is said of it

-- by the names of the rules, and with this bound
abbrev pub SaysEnd : List Name → ℕ → Outcome → Said → Type 0
SaysEnd names bound (outcome.Graph r) s = s ≡ code.Graph r
SaysEnd names bound (outcome.Fail r) s = s ≡ code.Fail r
SaysEnd names bound (outcome.Bound r) s = s ≡ code.Bound bound
SaysEnd names bound (outcome.Fault r rule kind) s = (name : Name) × (slice_get names rule ≡ Some name) × (s ≡ code.Number name kind)
SaysEnd names bound outcome.NoMemory s = ⊥

-- of the run of a demo: in place of a graph, what it has done
abbrev pub SaysDemo : DemoCommand → List Name → Outcome → Said → Type 0
SaysDemo k names (outcome.Graph r) s = s ≡ code.Demo k.kind k.size r
SaysDemo k names (outcome.Fail r) s = SaysEnd names demo_bound (outcome.Fail r) s
SaysDemo k names (outcome.Bound r) s = SaysEnd names demo_bound (outcome.Bound r) s
SaysDemo k names (outcome.Fault r rule kind) s = SaysEnd names demo_bound (outcome.Fault r rule kind) s
SaysDemo k names outcome.NoMemory s = SaysEnd names demo_bound outcome.NoMemory s

-- what the lines of a script come to over the items that are left
pub record SaysWalk (rules : List Rule) (host : Graph) (lines : List Line) (r : Ran) (s : Said) : Type 0 where
  pub trace : List Item
  pub left : items_left r ≡ Some trace
  pub text : List ℕ
  pub tells : Tells false s (texts.walked text)
  pub walks : Walks rules host trace 0 lines text

-- in place of a graph or fail
abbrev pub SaysWalkOrEnd : List Name → ℕ → List Rule → Graph → List Line → Outcome → Said → Type 0
SaysWalkOrEnd names bound rules host lines (outcome.Graph r) s = SaysWalk rules host lines r s
SaysWalkOrEnd names bound rules host lines (outcome.Fail r) s = SaysWalk rules host lines r s
SaysWalkOrEnd names bound rules host lines (outcome.Bound r) s = SaysEnd names bound (outcome.Bound r) s
SaysWalkOrEnd names bound rules host lines (outcome.Fault r rule kind) s = SaysEnd names bound (outcome.Fault r rule kind) s
SaysWalkOrEnd names bound rules host lines outcome.NoMemory s = SaysEnd names bound outcome.NoMemory s
