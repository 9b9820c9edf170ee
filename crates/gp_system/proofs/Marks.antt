-- The graphs before the steps of a trail, as steps are made and taken back.
use Rattle.std.proofs.Common.{◌≡◌, ℕ, zero, suc, ◌+◌, List, [], ◌∷◌, ◌++◌, length, drop, refl, sym, ap, ◌∙◌, arith, append_assoc}
use Rattle.std.proofs.lemmas.List.{length_push, drop_at}
use Rattle.std.proofs.Math.Seq.{drop-nil}
use Rattle.gp_values.specs.Graph.{Graph}
use Rattle.gp_syntax.specs.Rule.{Found}
use Rattle.gp_run.specs.Engine.{live_with}
use Rattle.opt_core.specs.Core.{reached}
use Rattle.gp_journal.specs.Trail.{Trail, led_by, advanced, back_by}
use Rattle.gp_journal.specs.Journal.{items_of}
use Rattle.gp_system.specs.Gp.{RuleSystem, rules_of, gp_means}
use Rattle.gp_system.specs.inside.Pursued.{turns_first}
use Rattle.std.specs.Prelude.{slice_get}

-- a trail's graph, and those before its live steps
abbrev pub stack : Trail → List Graph
stack t = t.graph ∷ t.before

-- ---- taken back

back_down : (k : ℕ) (g : Graph) (bs : List Graph) (c : ℕ) (h : Graph) (hs : List Graph) → drop k (g ∷ bs) ≡ h ∷ hs → ((back_by k (record { graph = g; before = bs; caught = c })).graph ≡ h) × ((back_by k (record { graph = g; before = bs; caught = c })).before ≡ hs)
back_down zero g bs c h hs e = (cc, cc)
back_down (suc k) g [] c h hs e = absurd (let f : ◌≡◌ {A = List Graph} [] (h ∷ hs) = sym (drop-nil k) ∙ e in cc)
back_down (suc k) g (b ∷ bs) c h hs e = back_down k b bs c h hs e

-- what stands there is what taking back comes to
pub goes_back : (k : ℕ) (t : Trail) (h : Graph) (hs : List Graph) → drop k (stack t) ≡ h ∷ hs → ((back_by k t).graph ≡ h) × ((back_by k t).before ≡ hs)
goes_back k t h hs e = back_down k t.graph t.before t.caught h hs e

-- ---- made

module _ (s : RuleSystem) where
  stacked : (t : Trail) (es : List Found) → (us : List Graph) × (stack (reached (gp_means s) t es) ≡ us ++ stack t) × (length us ≡ length es)
  stacked t [] = ([], refl, refl)
  stacked t (m ∷ ms) =
      let h : Graph = led_by (slice_get (rules_of s) m.rule) t.graph m in
      let r = stacked (advanced (rules_of s) t m) ms in
      (r.0 ++ h ∷ [], r.1 ∙ sym (append_assoc r.0 (h ∷ []) (stack t)), omega (arith, r.2, length_push r.0 h))

  -- what stood before a goal stands behind the graphs of its entries
  pub stands_behind : (t u : Trail) (es : List Found) → u ≡ reached (gp_means s) t es → drop (length es) (stack u) ≡ stack t
  stands_behind t u es e =
      let r = stacked t es in
      ap (λ (l : List Graph). drop (length es) l) (ap stack e ∙ r.1) ∙ drop_at r.0 (stack t) (length es) r.2

-- each entry of a goal is one live step more
pub live_turns : (n : ℕ) (es : List Found) → live_with n (items_of (turns_first es)) ≡ n + length es
live_turns n [] = omega arith
live_turns n (m ∷ ms) = live_turns (n + 1) ms ∙ (let e : n + 1 + length ms ≡ n + length (m ∷ ms) = omega arith in e)
