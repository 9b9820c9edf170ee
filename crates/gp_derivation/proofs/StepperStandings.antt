-- What stands at a place of the items, before and behind one of them.
use Rattle.std.proofs.Common.{◌≡◌, ℕ, suc, ◌+◌, ◌-◌, ◌<◌, ◌≤◌, List, [], ◌∷◌, ◌++◌, length, take, drop, get_or, option_map, Some, slice_get, add-one, sym, subst, ap, refl, ◌∙◌, arith, length-append, length-drop}
use Rattle.std.proofs.lemmas.Option.{slice_get-map, slice_get_read}
use Rattle.std.proofs.Math.Seq.{drop-append_seam, take-append_seam}
use Rattle.std.proofs.lemmas.List.{length-map, take-append-drop}
use Rattle.gp_syntax.specs.declared.found.Item as trees
use Rattle.gp_syntax.specs.Rule.{Rule, Found}
use Rattle.gp_syntax.specs.Run.{Item, Stepped, Turned, Back}
use Rattle.gp_syntax.specs.Tree.{item_of}
use Rattle.gp_journal.specs.Trail.{Trail, undone, back_by, rooted}
use Rattle.gp_journal.specs.Leads.{AppliesBy}
use Rattle.gp_journal.specs.Journal.{items_of}
use Rattle.gp_derivation.specs.declared.standing.Standing.{Standing}
use Rattle.gp_derivation.specs.Stepper.{Stepper, IsStepperOf, IsMoved}
use Rattle.gp_derivation.specs.inside.Stands.{Stacks, taken_back, made_again, stacks_after, stacks_at, stacks_of, StepsOn, shown_at, Stands}
use Rattle.gp_derivation.proofs.StepperMoves.{at, goes_next, goes_before, moved_back}
use Rattle.gp_derivation.proofs.StepperStacks.{live_steps, last_steps}

-- the item in memory
pub item_at : (is : List trees.Item) (n : ℕ) (i j : trees.Item) → n < length is → i ≡ get_or is n i → i ≡ j → slice_get (items_of is) n ≡ Some (item_of j)
item_at is n i j l e same = slice_get-map item_of is n ∙ ap (option_map item_of) (slice_get_read is (length is) n i refl l e) ∙ ap (λ x. Some (item_of x)) same

pub next_stacks : (is : List Item) (n : ℕ) (i : Item) (s t : Stacks) → slice_get is n ≡ Some i → t ≡ stacks_after n (Some i) s → s ≡ stacks_at is n → t ≡ stacks_at is (n + 1)
next_stacks is n i s t e f g = rw add-one (f ∙ ap (stacks_after n (Some i)) g ∙ ap (λ o. stacks_after n o (stacks_at is n)) (sym e))

last_stacks : (is : List Item) (n : ℕ) (i : Item) (s : Stacks) → slice_get is n ≡ Some i → s ≡ stacks_at is (n + 1) → s ≡ stacks_after n (Some i) (stacks_at is n)
last_stacks is n i s e f = (rw add-one at f) ∙ ap (λ o. stacks_after n o (stacks_at is n)) e

-- the last number taken off
pub popped : (is : List Item) (n count : ℕ) (m : Found) (s : Stacks) (rest : List ℕ) → slice_get is n ≡ Some (Stepped m) → s ≡ stacks_at is (n + 1) → count ≡ length s.live → rest ≡ take (count - 1) s.live → record { live = rest; taken = s.taken } ≡ stacks_at is n
popped is n count m s rest e f c r =
    let a = stacks_at is n in
    let w = last_stacks is n (Stepped m) s e f in
    let l : count - 1 ≡ length a.live = let z = ap (λ (x : Stacks). length x.live) w in let y = length-append a.live (n ∷ []) in omega arith in
    let live : rest ≡ a.live = r ∙ ap (λ k. take k s.live) l ∙ ap (λ (x : Stacks). take (length a.live) x.live) w ∙ take-append_seam a.live (n ∷ []) in
    λ j. record { live = live j; taken = (w j).taken }

-- ---- what is taken back and made again

pub back_and_again : (k : ℕ) (s : Stacks) → k ≤ length s.live
    → record {
      room : k ≤ length (taken_back k s).taken;
      last : drop (length (taken_back k s).taken - k) (taken_back k s).taken ≡ drop (length s.live - k) s.live;
      again : made_again k (taken_back k s) ≡ s;
    }
back_and_again k s l =
    let last = drop (length s.live - k) s.live in
    let few : length last ≡ k = length-drop (length s.live - k) s.live ∙ (let z : length s.live - (length s.live - k) ≡ k = omega arith in z) in
    let all = length-append s.taken last in
    let first : length (s.taken ++ last) - k ≡ length s.taken = omega arith in
    let same : drop (length (s.taken ++ last) - k) (s.taken ++ last) ≡ last = ap (λ n. drop n (s.taken ++ last)) first ∙ drop-append_seam s.taken last in
    record {
      room = omega arith;
      last = same;
      again = λ j. record {
        live = (ap (λ xs. take (length s.live - k) s.live ++ xs) same ∙ take-append-drop (length s.live - k) s.live) j;
        taken = (ap (λ n. take n (s.taken ++ last)) first ∙ take-append_seam s.taken last) j;
      };
    }

-- ---- as a stepper holds it

pub stands_held : (rules : List Rule) (is js : List trees.Item) (n k : ℕ) (s : Standing) (v : Stepper) → shown_at is n s ≡ v → IsStepperOf rules v → stacks_of s ≡ stacks_at (items_of is) n → js ≡ is → k ≡ n → Stands rules js k s
stands_held rules is js n k s v e w st same there =
    let here : Stands rules is n s = record { of_rules = subst (IsStepperOf rules) (sym e) w; stacks = st } in
    subst (λ i. Stands rules i k s) (sym same) (subst (λ j. Stands rules is j s) (sym there) here)

module _ (rules : List Rule) (is : List trees.Item) (n : ℕ) (s : Standing) (l : n < length is) where
  within : n ≤ length (items_of is)
  within = let c = length-map is item_of in omega arith

  -- ---- before an item

  pub may_step : (m : Found) → slice_get (items_of is) n ≡ Some (Stepped m) → IsStepperOf rules (shown_at is n s) → AppliesBy rules s.trail.graph m
  may_step m e o = let g = (goes_next rules is n (Stepped m) e s.trail o).1.1 in record { rule = g.rule; is_rule = g.is_rule; applies = (g.step.0, g.step.1) }

  pub may_go_back : (k : ℕ) → slice_get (items_of is) n ≡ Some (Back k) → Stands rules is n s → (k ≤ length s.trail.before) × (k ≤ length s.live.items)
  may_go_back k e w =
      let g = goes_next rules is n (Back k) e s.trail w.of_rules in
      let live = live_steps rules (items_of is) n (rooted s.trail) s.trail within refl w.of_rules.before in
      let r = last_steps rules (items_of is) k (stacks_at (items_of is) n).live (rooted s.trail) s.trail refl g.1.0 live in
      (g.1.0, subst (λ (x : Stacks). k ≤ length x.live) (sym w.stacks) r.0)

  -- ---- behind an item

  pub before_step : (m : Found) → slice_get (items_of is) n ≡ Some (Stepped m) → IsStepperOf rules (shown_at is (n + 1) s) → (1 ≤ length s.trail.before) × IsMoved rules (shown_at is (n + 1) s) (at is n (undone s.trail)) n
  before_step m e o =
      let p = goes_before rules is n (Stepped m) e s.trail o in
      let back : p.0 ≡ undone s.trail = sym (ap undone p.2.2) in
      let deep : length s.trail.before ≡ suc (length p.0.before) = ap (λ (x : Trail). length x.before) p.2.2 in
      (omega arith, subst (λ v. IsMoved rules (shown_at is (n + 1) s) (at is n v) n) back (moved_back rules is n (Stepped m) e s.trail p.0 l o p.1 p.2))

  pub before_turn : slice_get (items_of is) n ≡ Some Turned → Stands rules is (n + 1) s → IsMoved rules (shown_at is (n + 1) s) (shown_at is n s) n × (stacks_of s ≡ stacks_at (items_of is) n)
  before_turn e w =
      let p = goes_before rules is n Turned e s.trail w.of_rules in
      (subst (λ v. IsMoved rules (shown_at is (n + 1) s) (at is n v) n) (sym p.2) (moved_back rules is n Turned e s.trail p.0 l w.of_rules p.1 p.2), last_stacks (items_of is) n Turned (stacks_of s) e w.stacks)

  pub before_back : (k : ℕ) → slice_get (items_of is) n ≡ Some (Back k) → Stands rules is (n + 1) s
      → record {
        room : k ≤ length s.taken.items;
        trail : Trail;
        steps : StepsOn rules (items_of is) (drop (length s.taken.items - k) s.taken.items) s.trail trail;
        moved : IsMoved rules (shown_at is (n + 1) s) (at is n trail) n;
        stacks : made_again k (stacks_of s) ≡ stacks_at (items_of is) n;
      }
  before_back k e w =
      let p = goes_before rules is n (Back k) e s.trail w.of_rules in
      let live = live_steps rules (items_of is) n (rooted s.trail) p.0 within refl p.1 in
      let r = last_steps rules (items_of is) k (stacks_at (items_of is) n).live (rooted s.trail) p.0 refl p.2.0 live in
      let st = last_stacks (items_of is) n (Back k) (stacks_of s) e w.stacks in
      let a = back_and_again k (stacks_at (items_of is) n) r.0 in
      record {
        room = subst (λ (x : Stacks). k ≤ length x.taken) (sym st) a.room;
        trail = p.0;
        steps = subst (λ t. StepsOn rules (items_of is) (drop (length s.taken.items - k) s.taken.items) t p.0) (sym p.2.1)
            (subst (λ ns. StepsOn rules (items_of is) ns (back_by k p.0) p.0) (sym (ap (λ (x : Stacks). drop (length x.taken - k) x.taken) st ∙ a.last)) r.2);
        moved = moved_back rules is n (Back k) e s.trail p.0 l w.of_rules p.1 p.2;
        stacks = ap (made_again k) st ∙ a.again;
      }
