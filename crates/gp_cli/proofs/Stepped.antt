-- From how a run ended, and a walk over its items, to what `step` answers.
use Rattle.std.proofs.Common.{◌≡◌, true, false, List, Option, Some, sym, subst, ◌∙◌}
use Rattle.gp_io.specs.Outside.{KnownFiles}
use Rattle.gp_values.specs.Names.{Name}
use Rattle.gp_values.specs.Graph.{Graph}
use Rattle.gp_syntax.specs.Rule.{Rule}
use Rattle.gp_syntax.specs.Run.{Program, Item, Ending}
use Rattle.gp_journal.specs.Trail.{Trail, fresh}
use Rattle.gp_journal.specs.Leads.{Leads}
use Rattle.gp_journal.specs.Journal.{Kept, items_of}
use Rattle.rand_pcg.specs.Lcg.{Lcg}
use Rattle.gp_system.specs.declared.outcome.Ran.{Ran}
use Rattle.gp_system.specs.declared.outcome.Outcome.{Outcome}
use Rattle.gp_system.specs.declared.outcome.Outcome.TheVariants as outcome
use Rattle.gp_derivation.specs.declared.line.Line.{Line}
use Rattle.gp_derivation.specs.Walk.{Walks}
use Rattle.gp_words.specs.CommandLine.{StepCommand}
use Rattle.gp_cli.specs.declared.said.Said.{Said}
use Rattle.gp_cli.specs.Texts as texts
use Rattle.gp_cli.specs.Inputs.{HasScript}
use Rattle.gp_cli.specs.Answer.{HasEnded, Steps, walks, is_endless}
use Rattle.gp_cli.specs.Said.{IsTold}
use Rattle.gp_cli.specs.inside.Ends.{EndsSeeded, CanWalk, SaysWalk, SaysWalkOrEnd}
use Rattle.gp_cli.proofs.Runs.{Seeded, runs_to, told_so, told_spent, told_fault}

-- ---- the items that are there

same_items : {X : Type 0} (o : Option X) (a b : X) → o ≡ Some a → o ≡ Some b → a ≡ b
same_items o a b e f = cc

pub leads_there : (rules : List Rule) (host : Graph) (r : Ran) (k : Kept) → CanWalk rules host r → r.items ≡ Some k → (end : Trail) × Leads rules (items_of k.items) (fresh host) end
leads_there rules host r k w is = (w.end, subst (λ (x : Kept). Leads rules (items_of x.items) (fresh host) w.end) (same_items r.items w.kept k w.items is) w.leads)

-- ---- what is walked over

one_trace : (s t : List Item) → Some s ≡ Some t → s ≡ t
one_trace s t e = cc

module _ {old new : KnownFiles} {k : StepCommand} {p : Program} {names : List Name} {g : Graph} {lines : List Line} (has : HasScript old.content k.script lines) where
  walked : {u : Lcg} {r : Ran} {x : Ending} (s : Said) → HasEnded x → Seeded k.seed p g k.bound true u r x → SaysWalk p.rules g lines r s → IsTold false (Steps old new k p names g) s
  walked s ends h w =
      let same : w.trace ≡ h.trace = one_trace w.trace h.trace (sym w.left ∙ h.kept) in
      record { said = texts.walked w.text; tells = w.tells; holds = walks has (runs_to h) ends (subst (λ (t : List Item). Walks p.rules g t 0 lines w.text) same w.walks) }

  pub stepped : (o : Outcome) (s : Said) → EndsSeeded k.seed p g k.bound true o → SaysWalkOrEnd names k.bound p.rules g lines o s → IsTold false (Steps old new k p names g) s
  stepped (outcome.Graph r) s e w = walked s tt e.ended w
  stepped (outcome.Fail r) s e w = walked s tt e.ended w
  stepped (outcome.Bound r) s e w = told_so (told_spent false r s e w) (λ said c. is_endless has c.0 c.1)
  stepped (outcome.Fault r rule kind) s e w = told_so (told_fault false r rule kind s e w) (λ said c. is_endless has c.0 c.1)
  stepped outcome.NoMemory s e w = absurd w
