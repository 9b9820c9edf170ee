-- A place tells the trail.
use Rattle.std.proofs.Common.{◌≡◌, ℕ, zero, suc, List, [], ◌∷◌, take, All, sym, subst, ap, refl, ◌∙◌}
use Rattle.std.proofs.lemmas.Option.{same_Some, slice_get_within, get_or_from_slice_get}
use Rattle.gp_values.specs.Graph.{Graph}
use Rattle.gp_syntax.specs.Rule.{Rule, Found}
use Rattle.gp_syntax.specs.Run.{Item, Stepped, Turned, Back}
use Rattle.gp_syntax.specs.Step.{Step}
use Rattle.gp_syntax.specs.Replay.{Replays}
use Rattle.gp_syntax.specs.WellFormed.{IsWellFormed}
use Rattle.gp_unify.proofs.Candidates.{one_step}
use Rattle.gp_journal.specs.Trail.{Trail, led, undone, undone_of, back_by, root_of, rooted}
use Rattle.gp_journal.specs.Leads.{StepsBy, Goes, Leads}
use Rattle.gp_journal.specs.Journal.{Journal, IsJournalOf, items_of}
use Rattle.gp_journal.proofs.Replays.{taken_of}
use Rattle.gp_journal.proofs.Stacks as journals
use Rattle.gp_derivation.specs.Stepper.{Stepper, IsStepperOf, IsMoved}
use Rattle.gp_derivation.specs.StepperLaws.{SteppersReplay, SameTrail, MovesAreInverse, WellFormedMovesAreInverse}

pub all_replay : SteppersReplay
all_replay rules s w =
    let j : Journal = record { trail = s.trail; items = take s.place s.items; backs = 0 } in
    let e = taken_of s.items s.place in
    let o : IsJournalOf rules j = subst (λ is. Leads rules is (rooted s.trail) s.trail) e w.before in
    subst (λ is. Replays rules (root_of s.trail) is s.trail.graph) (sym e) (journals.all_replay.journals rules j o).whole

-- ---- but for how many items the last catching up made

abbrev settled : Trail → Trail
settled t = record { graph = t.graph; before = t.before; caught = 0 }

settled_undone : (g : Graph) (bs : List Graph) (c : ℕ) → settled (undone_of g bs c) ≡ undone_of g bs 0
settled_undone g [] c = refl
settled_undone g (b ∷ bs) c = refl

settled_back : (k : ℕ) (t : Trail) → settled (back_by k t) ≡ back_by k (settled t)
settled_back zero t = refl
settled_back (suc k) t = settled_back k (undone t) ∙ ap (back_by k) (settled_undone t.graph t.before t.caught)

settled_goes : (rules : List Rule) (i : Item) (t u : Trail) → Goes rules i t u → Goes rules i (settled t) (settled u)
settled_goes rules (Stepped m) t u g = (g.0, g.1, ap settled g.2)
settled_goes rules Turned t u g = ap settled g
settled_goes rules (Back k) t u g = (g.0, ap settled g.1 ∙ settled_back k t)

settled_leads : (rules : List Rule) (is : List Item) (t u : Trail) → Leads rules is t u → Leads rules is (settled t) (settled u)
settled_leads rules [] t u w = ap settled w
settled_leads rules (i ∷ is) t u w = (settled w.0, settled_goes rules i t w.0 w.1, settled_leads rules is w.0 u w.2)

module _ (rules : List Rule) (w : All IsWellFormed rules) where
  one_graph : (g h k : Graph) (m : Found) → StepsBy rules g m h → StepsBy rules g m k → h ≡ k
  one_graph g h k m a b =
      let same : b.rule ≡ a.rule = same_Some b.rule a.rule (sym b.is_rule ∙ a.is_rule) in
      let f : IsWellFormed a.rule = subst IsWellFormed (get_or_from_slice_get rules m.rule a.rule a.rule a.is_rule) (w m.rule a.rule (slice_get_within rules m.rule a.rule a.is_rule)) in
      one_step a.rule g m h k f a.step (subst (λ r. Step r g m k) same b.step)

  one_goes : (i : Item) (t u v : Trail) → Goes rules i t u → Goes rules i t v → u ≡ v
  one_goes (Stepped m) t u v a b = a.2 ∙ ap (led t) (one_graph t.graph a.0 b.0 m a.1 b.1) ∙ sym b.2
  one_goes Turned t u v a b = a ∙ sym b
  one_goes (Back k) t u v a b = a.1 ∙ sym b.1

  one_leads : (is : List Item) (t u v : Trail) → Leads rules is t u → Leads rules is t v → u ≡ v
  one_leads [] t u v a b = a ∙ sym b
  one_leads (i ∷ is) t u v a b = one_leads is a.0 u v a.2 (subst (λ x. Leads rules is x v) (one_goes i t b.0 a.0 b.1 a.1) b.2)

  one_trail : (s t : Stepper) → IsStepperOf rules s → IsMoved rules s t s.place → SameTrail s t
  one_trail s t o m =
      let is = take s.place (items_of s.items) in
      let there : Leads rules is (rooted t.trail) t.trail = subst (λ js. Leads rules js (rooted t.trail) t.trail) (λ j. take (m.place_is j) (items_of (m.items j))) m.of_rules.before in
      let root : settled (rooted t.trail) ≡ settled (rooted s.trail) = λ j. record { graph = m.root j; before = []; caught = 0 } in
      let e : settled t.trail ≡ settled s.trail =
      one_leads is (settled (rooted s.trail)) (settled t.trail) (settled s.trail) (subst (λ x. Leads rules is x (settled t.trail)) root (settled_leads rules is (rooted t.trail) t.trail there)) (settled_leads rules is (rooted s.trail) s.trail o.before) in
      record { graph = ap (λ (x : Trail). x.graph) e; before = ap (λ (x : Trail). x.before) e }

  moves : MovesAreInverse rules
  moves = record {
    one_trail = one_trail;
    there_and_back = λ s t u place o m n. one_trail s u o (record { items = n.items ∙ m.items; root = n.root ∙ m.root; place_is = n.place_is; of_rules = n.of_rules });
  }

pub all_inverse : WellFormedMovesAreInverse
all_inverse rules w = moves rules w
