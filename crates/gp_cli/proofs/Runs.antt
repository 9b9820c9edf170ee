-- From how a run ended, and what is said of that, to what the program comes to.
use Rattle.std.proofs.Common.{◌≡◌, ℕ, ◌<◌, Bool, true, List, map, length, Option, Some, None, refl, sym, subst}
use Rattle.std.specs.Option.{option_map}
use Rattle.std.proofs.lemmas.List.{length-map}
use Rattle.std.proofs.lemmas.Option.{slice_get_within}
use Rattle.rand_pcg.specs.Lcg.{Lcg}
use Rattle.rand_pcg.specs.Pcg.{pcg32}
use Rattle.gp_values.specs.Names.{Name}
use Rattle.gp_values.specs.Graph.{Graph}
use Rattle.gp_syntax.specs.declared.command.ProgramParts.{ProgramParts}
use Rattle.gp_syntax.specs.declared.kinds.NumberKind.{NumberKind}
use Rattle.gp_syntax.specs.Run.{Program, Item, Ending}
use Rattle.gp_syntax.specs.Tree.{program_of_tree, rule_of_tree}
use Rattle.gp_journal.specs.Trail.{fresh}
use Rattle.gp_journal.specs.Leads.{Leads}
use Rattle.gp_journal.specs.Journal.{Kept, items_of}
use Rattle.gp_journal.proofs.Running.{all_lead}
use Rattle.gp_system.specs.declared.outcome.Ran.{Ran}
use Rattle.gp_system.specs.declared.outcome.Outcome.{Outcome}
use Rattle.gp_system.specs.declared.outcome.Outcome.TheVariants as outcome
use Rattle.gp_system.specs.Ended.{HasRun}
use Rattle.gp_cli.specs.declared.said.Said.{Said}
use Rattle.gp_cli.specs.Choices.{is_odd, seeded}
use Rattle.gp_cli.specs.Texts as texts
use Rattle.gp_cli.specs.Answer.{RunsTo, Comes, gives, fails, is_spent, is_faulty, IsEndless}
use Rattle.gp_cli.specs.Said.{IsLeftOf, IsTold}
use Rattle.gp_cli.specs.inside.Ends.{EndsSeeded, HasRule, CanWalk, CanWalkEnd, SaysEnd}
use Rattle.gp_cli.proofs.Bits.{bits_of}

-- a run with the choices of the seed
abbrev pub Seeded : ℕ → Program → Graph → ℕ → Bool → Lcg → Ran → Ending → Type 0
Seeded seed p g bound keeps u r x = HasRun (λ (s : Lcg). is_odd (pcg32 s).0) (λ (s : Lcg). (pcg32 s).1) p g bound keeps (seeded seed) u r x

pub runs_to : {seed : ℕ} {p : Program} {g : Graph} {bound : ℕ} {keeps : Bool} {u : Lcg} {r : Ran} {x : Ending} → (h : Seeded seed p g bound keeps u r x) → RunsTo bound seed p g h.trace x
runs_to {seed} {u = u} h = record { picks = h.picks; run = h.run; seeded = bits_of h.picks (seeded seed) u h.answers; within = h.within }

-- ---- whatever the choices are

-- items that are left are those of the trace
kept_of : (o : Option Kept) (t : List Item) → option_map (λ (k : Kept). items_of k.items) o ≡ Some t → (k : Kept) × (o ≡ Some k) × (items_of k.items ≡ t)
kept_of None t e = absurd cc
kept_of (Some k) t e = (k, refl, cc)

module _ {S : Type 0} {answer : S → Bool} {next : S → S} {p : Program} {g : Graph} {bound : ℕ} {s u : S} {r : Ran} {x : Ending} where
  pub is_left : {keeps : Bool} (h : HasRun answer next p g bound keeps s u r x) → IsLeftOf keeps h.trace r
  is_left h = record { items = h.kept; live_steps = h.live_steps }

  leads_on : HasRun answer next p g bound true s u r x → CanWalk p.rules g r
  leads_on h =
      let k = kept_of r.items h.trace h.kept in
      let l = all_lead p p.main g h.picks h.trace x h.run in
      record { kept = k.0; items = k.1; end = l.end; leads = subst (λ (t : List Item). Leads p.rules t (fresh g) l.end) (sym k.2) l.leads }

-- ---- what is said of it

-- what follows from what is told
pub told_so : {asked : Bool} {P Q : texts.Said → Type 0} {s : Said} → IsTold asked P s → ((said : texts.Said) → P said → Q said) → IsTold asked Q s
told_so t so = record { said = t.said; tells = t.tells; holds = so t.said t.holds }

-- a run without an end
abbrev pub ComesEndless : ℕ → ℕ → Program → List Name → Graph → texts.Said → Type 0
ComesEndless bound seed p names g said = Comes bound seed p names g said × IsEndless said

module _ {bound seed : ℕ} {keeps : Bool} {p : Program} {names : List Name} {g : Graph} where
  -- it is told alike, whether the journal is asked for or not
  pub told_spent : (asked : Bool) (r : Ran) (s : Said) → EndsSeeded seed p g bound keeps (outcome.Bound r) → SaysEnd names bound (outcome.Bound r) s →
      IsTold asked (ComesEndless bound seed p names g) s
  told_spent asked r s e is =
      let h = e.ended in
      subst (IsTold asked (ComesEndless bound seed p names g)) (sym is) (record { said = texts.bound_spent bound; tells = refl; holds = (is_spent r.graph.graph (runs_to h.has_run) h.may_go_on h.spent, tt) })

  pub told_fault : (asked : Bool) (r : Ran) (rule : ℕ) (kind : NumberKind) (s : Said) → EndsSeeded seed p g bound keeps (outcome.Fault r rule kind) → SaysEnd names bound (outcome.Fault r rule kind) s →
      IsTold asked (ComesEndless bound seed p names g) s
  told_fault asked r rule kind s e is =
      let h = e.ended in
      subst (IsTold asked (ComesEndless bound seed p names g)) (sym is.2) (record { said = texts.number_fault is.0 kind; tells = refl; holds = (is_faulty (runs_to h.1) h.2 is.1, tt) })

  pub told_fail : (r : Ran) (s : Said) → EndsSeeded seed p g bound keeps (outcome.Fail r) → SaysEnd names bound (outcome.Fail r) s → IsTold keeps (Comes bound seed p names g) s
  told_fail r s e is =
      let h = e.ended in
      subst (IsTold keeps (Comes bound seed p names g)) (sym is) (record { said = texts.failed h.trace; tells = (h.trace, is_left h, refl); holds = fails (runs_to h) })

  pub told_end : (o : Outcome) (s : Said) → EndsSeeded seed p g bound keeps o → SaysEnd names bound o s → IsTold keeps (Comes bound seed p names g) s
  told_end (outcome.Graph r) s e is =
      let h = e.ended in
      subst (IsTold keeps (Comes bound seed p names g)) (sym is) (record { said = texts.graph h.trace r.graph.graph; tells = (h.trace, is_left h, refl); holds = gives (runs_to h) })
  told_end (outcome.Fail r) s e is = told_fail r s e is
  told_end (outcome.Bound r) s e is = told_so (told_spent keeps r s e is) (λ said c. c.0)
  told_end (outcome.Fault r rule kind) s e is = told_so (told_fault keeps r rule kind s e is) (λ said c. c.0)
  told_end outcome.NoMemory s e is = absurd is

-- ---- what bodies ask of an end

pub has_rule : {seed bound : ℕ} {keeps : Bool} {g : Graph} (q : ProgramParts) (o : Outcome) → EndsSeeded seed (program_of_tree q) g bound keeps o → HasRule (length q.rules) o
has_rule q (outcome.Graph r) e = tt
has_rule q (outcome.Fail r) e = tt
has_rule q (outcome.Bound r) e = tt
has_rule q (outcome.Fault r rule kind) e =
    let f = e.ended.2 in
    let within : rule < length (map rule_of_tree q.rules) = slice_get_within (map rule_of_tree q.rules) rule f.the_rule f.is_rule in
    rw length-map at within
has_rule q outcome.NoMemory e = tt

-- with items that are kept
pub can_walk : {seed bound : ℕ} {p : Program} {g : Graph} (o : Outcome) → EndsSeeded seed p g bound true o → CanWalkEnd p.rules g o
can_walk (outcome.Graph r) e = leads_on e.ended
can_walk (outcome.Fail r) e = leads_on e.ended
can_walk (outcome.Bound r) e = tt
can_walk (outcome.Fault r rule kind) e = tt
can_walk outcome.NoMemory e = tt
