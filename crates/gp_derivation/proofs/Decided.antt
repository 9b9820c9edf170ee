-- What decides whether items and a text are a derivation.
use Rattle.std.proofs.Common.{◌≡◌, ℕ, Bool, true, false, List, [], ◌++◌, All, Decides, refl, sym, ap, subst, ◌∙◌}
use Rattle.std.specs.Prelude.{IsTrue, Option, Some, None, IsSomeAnd, Result, IfOk}
use Rattle.std.specs.Str.{bytes_eq}
use Rattle.std.proofs.lemmas.Bool.{false≢true}
use Rattle.std.proofs.lemmas.Slice.Eq.{bytes_eq-Decides}
use Rattle.std.proofs.lemmas.Result.{IfOk-weaker}
use Rattle.gp_memory.specs.declared.refusal.NoMemory.{NoMemory}
use Rattle.gp_values.specs.Graph.{Graph}
use Rattle.gp_graph.specs.Held.{Held}
use Rattle.gp_syntax.specs.Rule.{Rule}
use Rattle.gp_syntax.specs.WellFormed.{IsWellFormed}
use Rattle.gp_syntax.specs.Run.{Program, Item, Gives, Fails}
use Rattle.gp_step.specs.Laws.{IsNumbered}
use Rattle.gp_trace.specs.declared.version.Version.TheVariants.{One, Two}
use Rattle.gp_hostfile.specs.GraphText.{IsGraphText, WritesGraph}
use Rattle.gp_hostfile.proofs.Lines.{one_text}
use Rattle.gp_derivation.specs.Upgrade.{IsUpgrade, BreaksAtItem, HasFault}
use Rattle.gp_derivation.specs.declared.fault.UpgradeFault.{UpgradeFault}
use Rattle.gp_derivation.specs.declared.fault.UpgradeFault.TheVariants as faults
use Rattle.gp_derivation.proofs.Breaks.{told}
use Rattle.gp_certify.specs.Certified.{HasRunTo}
use Rattle.gp_derivation.specs.Derivation.{AreToday, as_they_are, brought_up, fail_text, EndsWith, with_graph, with_fail, IsDerivation}
use Rattle.gp_derivation.proofs.Twins.{same_ends}

pub same_bytes : (xs ys zs : List ℕ) (b : Bool) → b ≡ bytes_eq xs ys → zs ≡ xs → Decides b (zs ≡ ys)
same_bytes xs ys zs b e k = subst (λ (z : Bool). Decides z (zs ≡ ys)) (sym e) (subst (λ (z : List ℕ). Decides (bytes_eq xs ys) (z ≡ ys)) (sym k) (bytes_eq-Decides xs ys))

-- the text that was written is the one that the graph has
pub text_decided : (g : Graph) (old new text : List ℕ) (b : Bool) → old ≡ [] → WritesGraph g old new → Decides b (new ≡ text) → Decides b (IsGraphText g text)
text_decided g old new text b e w d = ((λ y. subst (IsGraphText g) (d.0 y) t), (λ x. d.1 (one_text g new text t x)))
  where
    t : IsGraphText g new
    t = subst (IsGraphText g) (sym (w.gained ∙ ap (λ (z : List ℕ). z ++ w.text) e)) w.is_text

-- ---- ends

-- Of a program, a host, items and a text: whether some run fails and the text is that of a failed run, and what the runs give.
module _ (program : Program) (host : Graph) (t : List Item) (text : List ℕ) (fail by_fail : Bool) (o : Option Held)
    (fails : (IsTrue fail → (h : Graph) × HasRunTo program host t (Fails h)) × ((h : Graph) × HasRunTo program host t (Fails h) → IsTrue fail))
    (gives : (h : Graph) → (IsSomeAnd o (λ g. g.graph ≡ h) → HasRunTo program host t (Gives h)) × (HasRunTo program host t (Gives h) → IsSomeAnd o (λ g. g.graph ≡ h)))
    (d : Decides by_fail (IsTrue fail × (text ≡ fail_text))) where
  pub with_failed : by_fail ≡ true → Decides true (EndsWith program host t text)
  with_failed e = ((λ _. let p = d.0 e in with_fail (fails.0 p.0).1 p.1), (λ _. refl))

  pub with_given : (x : Held) (b : Bool) → by_fail ≡ false → o ≡ Some x → Decides b (IsGraphText x.graph text) → Decides b (EndsWith program host t text)
  with_given x b f e i = ((λ y. with_graph ((gives x.graph).0 (subst (λ z. IsSomeAnd z (λ g. g.graph ≡ x.graph)) (sym e) refl)) (i.0 y)), on)
    where
      on : EndsWith program host t text → IsTrue b
      on (with_graph {h} r y) = i.1 (subst (λ (z : Graph). IsGraphText z text) (sym (subst (λ z. IsSomeAnd z (λ g. g.graph ≡ h)) e ((gives h).1 r))) y)
      on (with_fail {h} r y) = absurd (false≢true (sym f ∙ d.1 (fails.1 (h, r), y)))

  pub with_none : by_fail ≡ false → o ≡ None → Decides false (EndsWith program host t text)
  with_none f e = ((λ y. absurd (false≢true y)), (λ x. absurd (on x)))
    where
      on : EndsWith program host t text → ⊥
      on (with_graph {h} r y) = subst (λ z. IsSomeAnd z (λ g. g.graph ≡ h)) e ((gives h).1 r)
      on (with_fail {h} r y) = false≢true (sym f ∙ d.1 (fails.1 (h, r), y))

-- ---- items of both versions

from_two : {rules : List Rule} {host : Graph} {s t : List Item} → AreToday rules host Two s t → t ≡ s
from_two as_they_are = refl

from_one : {rules : List Rule} {host : Graph} {s t : List Item} → AreToday rules host One s t → IsUpgrade rules host s t
from_one (brought_up u) = u

pub of_today : (program : Program) (host : Graph) (t : List Item) (text : List ℕ) (b : Bool) → Decides b (EndsWith program host t text) → Decides b (IsDerivation program host Two t text)
of_today program host t text b d = (
  (λ y. record { today = t; are = as_they_are; ends = d.0 y }),
  (λ x. d.1 (subst (λ (z : List Item). EndsWith program host z text) (from_two x.are) x.ends)),
)

-- what decides of the items brought up to date decides of the old ones
pub of_upgraded : (program : Program) (rules : List Rule) (host h : Graph) (s t u : List Item) (text : List ℕ) (r : Result Bool NoMemory) → rules ≡ program.rules → h ≡ host → All IsWellFormed rules → IsNumbered host → IsUpgrade rules h s t → u ≡ t
    → IfOk r (λ b. Decides b (EndsWith program host u text)) → IfOk r (λ b. Decides b (IsDerivation program host One s text))
of_upgraded program rules host h s t u text r e k w n up same d =
    IfOk-weaker r _ _ (λ b c. ((λ y. record { today = u; are = brought_up v; ends = c.0 y }), (λ x. c.1 (same_ends program host s x.today u text (subst (All IsWellFormed) e w) n (from_one x.are) v x.ends)))) d
  where
    v : IsUpgrade program.rules host s u
    v = subst (IsUpgrade program.rules host s) (sym same) (subst (λ (z : List Rule). IsUpgrade z host s t) e (subst (λ (z : Graph). IsUpgrade rules z s t) k up))

-- items that break are none of a derivation
pub of_broken : (program : Program) (rules : List Rule) (host h : Graph) (s : List Item) (text : List ℕ) (fault : UpgradeFault) (n : ℕ) → rules ≡ program.rules → h ≡ host → fault ≡ faults.Item n → HasFault rules h s fault
    → Decides false (IsDerivation program host One s text)
of_broken program rules host h s text fault n e k i f = ((λ y. absurd (false≢true y)), (λ x. absurd ((told program.rules host s).none x.today n (from_one x.are) v)))
  where
    v : BreaksAtItem program.rules host s n
    v = subst (λ (z : List Rule). BreaksAtItem z host s n) e (subst (λ (z : Graph). BreaksAtItem rules z s n) k (subst (HasFault rules h s) i f))
