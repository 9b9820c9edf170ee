-- Lists of moves, and the place after them.
use Rattle.std.proofs.Common.{◌≡◌, ℕ, zero, suc, ◌+◌, List, [], ◌∷◌, length, take, refl, sym, ap, subst, ◌∙◌, arith}
use Rattle.gp_values.specs.Graph.{Graph}
use Rattle.gp_syntax.specs.declared.found.Item.{Item as ItemTree}
use Rattle.gp_syntax.specs.Rule.{Rule}
use Rattle.gp_syntax.specs.Replay.{Replays}
use Rattle.gp_journal.specs.Trail.{root_of}
use Rattle.gp_journal.specs.Journal.{items_of}
use Rattle.gp_derivation.specs.Stepper.{Stepper, IsStepperOf, Move, forward, back, moved, moved_by}
use Rattle.gp_derivation.specs.StepperLaws.{Moves, goes_on, is_at_end, goes_back, is_at_start, MovesBy, StandsAfter, MovesAreCounted}
use Rattle.gp_derivation.proofs.Unique.{all_replay}

went_back : (count n k : ℕ) → k + 1 ≡ n → k ≡ moved count back n
went_back count zero k e = absurd (omega (arith, e))
went_back count (suc n) k e = omega (arith, e)

stayed : (count n : ℕ) → n ≡ 0 → n ≡ moved count back n
stayed count zero e = refl
stayed count (suc n) e = absurd (omega (arith, e))

-- what one move leaves
record Left (rules : List Rule) (s t : Stepper) (m : Move) : Type 0 where
  pub place : t.place ≡ moved (length s.items) m s.place
  pub items : t.items ≡ s.items
  pub root : root_of t.trail ≡ root_of s.trail
  pub of_rules : IsStepperOf rules t

left : (rules : List Rule) (s t : Stepper) (m : Move) → IsStepperOf rules s → Moves rules s m t → Left rules s t m
left rules s t forward w (goes_on v) =
    let e : length t.items ≡ length s.items = ap length v.items in
    let l = v.of_rules.within in
    let p = v.place_is in
    record { place = omega (arith, e, l, p); items = v.items; root = v.root; of_rules = v.of_rules }
left rules s t forward w (is_at_end e) = record { place = omega (arith, e); items = refl; root = refl; of_rules = w }
left rules s t back w (goes_back e v) = record { place = went_back (length s.items) s.place t.place e; items = v.items; root = v.root; of_rules = v.of_rules }
left rules s t back w (is_at_start e) = record { place = stayed (length s.items) s.place e; items = refl; root = refl; of_rules = w }

pub all_counted : MovesAreCounted
all_counted rules s u [] w e = record {
  place = ap (λ (z : Stepper). z.place) e;
  replays = subst (λ (z : Stepper). Replays rules (root_of s.trail) (take z.place (items_of s.items)) z.trail.graph) (sym e) (all_replay rules s w);
}
all_counted rules s u (m ∷ ms) w (t, one, others) =
    let l = left rules s t m w one in
    let r = all_counted rules t u ms l.of_rules others in
    record {
      place = r.place ∙ ap (λ (is : List ItemTree). moved_by (length is) ms t.place) l.items ∙ ap (moved_by (length s.items) ms) l.place;
      replays = subst (λ (g : Graph). Replays rules g (take u.place (items_of s.items)) u.trail.graph) l.root (subst (λ (is : List ItemTree). Replays rules (root_of t.trail) (take u.place (items_of is)) u.trail.graph) l.items r.replays);
    }
