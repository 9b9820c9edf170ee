-- A trail that goes along a trace.
use Rattle.std.proofs.Common.{◌≡◌, inl, inr, ℕ, zero, suc, ◌+◌, ◌-◌, ◌≤◌, ◌<◌, List, [], ◌∷◌, ◌++◌, map, length, take, All, add-one, sym, subst, ap, refl, ◌∙◌, arith, length-append}
use Rattle.std.specs.Prelude.{Some, slice_get, slice_index_or}
use Rattle.std.specs.Option.{option_map}
use Rattle.std.proofs.Math.Seq.{take-suc, take-add}
use Rattle.std.proofs.lemmas.Bool.{cases_lt}
use Rattle.std.proofs.lemmas.List.{length-take-le, map-append}
use Rattle.std.proofs.lemmas.List.Elements.{All-push}
use Rattle.std.proofs.lemmas.Option.{slice_get-map, slice_get_within, slice_get-get_or, get_or_from_slice_get, slice_get_read}
use Rattle.gp_memory.proofs.Basics.{some_same}
use Rattle.gp_values.specs.Graph.{Graph}
use Rattle.gp_syntax.specs.declared.rule.RuleParts.{RuleParts}
use Rattle.gp_syntax.specs.Rule.{Rule, Found}
use Rattle.gp_syntax.specs.Step.{Applies, Step}
use Rattle.gp_syntax.specs.WellFormed.{IsWellFormed}
use Rattle.gp_syntax.specs.Run.{Item, Stepped, Turned, Back, live_after, live_from, live}
use Rattle.gp_syntax.specs.Replay.{StepsTo, BacksFit, Replays}
use Rattle.gp_syntax.specs.Tree.{rule_of_tree, item_of}
use Rattle.gp_step.specs.Laws.{IsNumbered}
use Rattle.gp_syntax.specs.declared.found.Item as trees
use Rattle.gp_syntax.specs.declared.found.Item.TheVariants as items
use Rattle.gp_journal.specs.Trail.{Trail, fresh, undone, undone_of, back_by, root_of, rooted}
use Rattle.gp_journal.specs.Leads.{AppliesBy, StepsBy, Goes, Leads}
use Rattle.gp_journal.proofs.Trails.{rule_at}
use Rattle.gp_journal.specs.Journal.{Journal, IsJournalOf, items_of}
use Rattle.gp_journal.proofs.Replays.{leads_more, caught_back}
use Rattle.gp_journal.proofs.Stacks.{all_replay}
use Rattle.gp_certify.specs.Places.{between}
use Rattle.gp_certify.specs.inside.Along.{MayGo, after_item, after_items, trail_at, depth_at, AllGo, Stands, IsWalked, BreaksOff}
use Rattle.gp_certify.proofs.Replayed.{one_way}

-- ---- rules

taken_trees : (rules : List RuleParts) (n : ℕ) (r : RuleParts) → n < length rules → r ≡ slice_index_or rules n r → map rule_of_tree (take (n + 1) rules) ≡ map rule_of_tree (take n rules) ++ rule_of_tree r ∷ []
taken_trees rules n r l e =
    let taken : take (n + 1) rules ≡ take n rules ++ r ∷ [] = rw add-one (take-suc rules n r l ∙ ap (λ z. take n rules ++ z ∷ []) (sym e)) in
    ap (map rule_of_tree) taken ∙ map-append rule_of_tree (take n rules) (r ∷ [])

pub one_rule_more : (rules : List RuleParts) (n : ℕ) (r : RuleParts) → n < length rules → r ≡ slice_index_or rules n r → All IsWellFormed (map rule_of_tree (take n rules)) → IsWellFormed (rule_of_tree r) → All IsWellFormed (map rule_of_tree (take (n + 1) rules))
one_rule_more rules n r l e w v = subst (All IsWellFormed) (sym (taken_trees rules n r l e)) (All-push IsWellFormed (map rule_of_tree (take n rules)) (rule_of_tree r) w v)

pub well_formed_at : (rules : List Rule) → All IsWellFormed rules → (i : ℕ) (r : Rule) → slice_get rules i ≡ Some r → IsWellFormed r
well_formed_at rules w i r e = subst IsWellFormed (get_or_from_slice_get rules i r r e) (w i r (slice_get_within rules i r e))

-- the rule of the match's number
pub applies_at : (rules : List RuleParts) (g : Graph) (m : Found) (r : RuleParts) (k : ℕ) → k ≡ m.rule → r ≡ slice_index_or rules k r → AppliesBy (map rule_of_tree rules) g m → Applies (rule_of_tree r) g m
applies_at rules g m r k e is a =
    let same : rule_of_tree r ≡ a.rule = rule_at rules m.rule r a.rule (is ∙ ap (λ j. slice_index_or rules j r) e) a.is_rule in
    subst (λ q. Applies q g m) (sym same) a.applies

-- ---- one item more

after_next : (rules : List Rule) (t : List Item) (n : ℕ) (i : Item) (u : Trail) → slice_get t n ≡ Some i → after_items rules (take (suc n) t) u ≡ after_item rules i (after_items rules (take n t) u)
after_next rules [] n i u e = absurd cc
after_next rules (x ∷ t) zero i u e = ap (λ z. after_item rules z u) (some_same e)
after_next rules (x ∷ t) (suc n) i u e = after_next rules t n i (after_item rules x u) e

pub trail_next : (rules : List Rule) (host : Graph) (t : List Item) (n : ℕ) (i : Item) → slice_get t n ≡ Some i → trail_at rules host t (n + 1) ≡ after_item rules i (trail_at rules host t n)
trail_next rules host t n i e = let s : n + 1 ≡ suc n = omega arith in ap (λ z. after_items rules (take z t) (fresh host)) s ∙ after_next rules t n i (fresh host) e

get_more : (xs : List ℕ) (x k : ℕ) → k < length xs → slice_get (xs ++ x ∷ []) k ≡ slice_get xs k
get_more [] x k l = absurd (omega arith)
get_more (y ∷ xs) x zero l = refl
get_more (y ∷ xs) x (suc k) l = get_more xs x k (omega arith)

get_last : (xs : List ℕ) (x k : ℕ) → k ≡ length xs → slice_get (xs ++ x ∷ []) k ≡ Some x
get_last [] x zero e = refl
get_last [] x (suc k) e = absurd (omega arith)
get_last (y ∷ xs) x zero e = absurd (omega arith)
get_last (y ∷ xs) x (suc k) e = get_last xs x k (omega arith)

pub walked_none : (rules : List Rule) (host : Graph) (t : List Item) (depths : List ℕ) (at : Trail) → depths ≡ 0 ∷ [] → at ≡ fresh host → IsWalked rules host t 0 depths at
walked_none rules host t depths at e f = record {
  all_go = λ k i l g. absurd (omega arith);
  are_depths = record {
    count = ap length e;
    each = λ k l. (let z : k ≡ 0 = omega arith in ap (λ (ds : List ℕ). slice_get ds k) e ∙ subst (λ (n : ℕ). slice_get (0 ∷ []) n ≡ Some (depth_at rules host t n)) (sym z) refl);
  };
  trail = f;
}

pub walked_whole : (rules : List Rule) (host : Graph) (t : List Item) (n m : ℕ) (depths : List ℕ) (at : Trail) → n ≡ m → IsWalked rules host t n depths at → IsWalked rules host t m depths at
walked_whole rules host t n m depths at e w = subst (λ (k : ℕ). IsWalked rules host t k depths at) e w

pub walked_more : (rules : List Rule) (host : Graph) (t : List Item) (n : ℕ) (i : Item) (depths more : List ℕ) (at on : Trail) → slice_get t n ≡ Some i → IsWalked rules host t n depths at
    → Goes rules i at on → on ≡ after_item rules i at → more ≡ depths ++ length on.before ∷ [] → IsWalked rules host t (n + 1) more on
walked_more rules host t n i depths more at on e w g a d = record {
  all_go = λ k j l f.
      elim (cases_lt k n) [
        | inl b ↦ w.all_go k j b f
        | inr b ↦ let s : k ≡ n = omega arith in last_goes k j s f
      ];
  are_depths = record {
    count = ap length d ∙ length-append depths (length on.before ∷ []) ∙ ap (λ z. z + 1) w.are_depths.count;
    each = λ k l.
        elim (cases_lt k (n + 1)) [
          | inl b ↦ ap (λ z. slice_get z k) d ∙ get_more depths (length on.before) k (let c = w.are_depths.count in omega arith) ∙ w.are_depths.each k (omega arith)
          | inr b ↦ let s : k ≡ n + 1 = omega arith in ap (λ z. slice_get z k) d ∙ get_last depths (length on.before) k (s ∙ sym w.are_depths.count) ∙ ap (λ (z : Trail). Some (length z.before)) (there ∙ ap (trail_at rules host t) (sym s))
        ];
  };
  trail = there;
}
  where
    there : on ≡ trail_at rules host t (n + 1)
    there = a ∙ ap (after_item rules i) w.trail ∙ sym (trail_next rules host t n i e)

    here : Goes rules i (trail_at rules host t n) (trail_at rules host t (n + 1))
    here = subst (Goes rules i (trail_at rules host t n)) there (subst (λ z. Goes rules i z on) w.trail g)

    last_goes : (k : ℕ) (j : Item) → k ≡ n → slice_get t k ≡ Some j → Goes rules j (trail_at rules host t k) (trail_at rules host t (k + 1))
    last_goes k j s f =
        let same : i ≡ j = some_same (sym e ∙ ap (slice_get t) (sym s) ∙ f) in
        subst (λ z. Goes rules j (trail_at rules host t z) (trail_at rules host t (z + 1))) (sym s) (subst (λ z. Goes rules z (trail_at rules host t n) (trail_at rules host t (n + 1))) same here)

-- ---- replays

pub leads_to : (rules : List Rule) (host : Graph) (t : List Item) (n : ℕ) → AllGo rules host t n → n ≤ length t → (k : ℕ) → k ≤ n → Leads rules (take k t) (fresh host) (trail_at rules host t k)
leads_to rules host t n g l zero b = refl
leads_to rules host t n g l (suc k) b =
    let i = slice_index_or t k Turned in
    let e : slice_get t k ≡ Some i = slice_get-get_or t k Turned (omega arith) in
    let o : Goes rules i (trail_at rules host t k) (trail_at rules host t (suc k)) = rw (← add-one) (g k i (omega arith) e) in
    subst (λ z. Leads rules z (fresh host) (trail_at rules host t (suc k))) (sym (take-suc t k Turned (omega arith)))
    (leads_more rules (take k t) i (fresh host) (trail_at rules host t k) (trail_at rules host t (suc k)) (leads_to rules host t n g l k (omega arith)) o)

leads_caught : (rules : List Rule) (is : List Item) (t u : Trail) → Leads rules is t u → u.caught ≡ t.caught
leads_caught rules [] t u l = ap (λ (x : Trail). x.caught) l
leads_caught rules (Stepped m ∷ is) t u l = leads_caught rules is l.0 u l.2 ∙ ap (λ (x : Trail). x.caught) l.1.2
leads_caught rules (Turned ∷ is) t u l = leads_caught rules is l.0 u l.2 ∙ ap (λ (x : Trail). x.caught) l.1
leads_caught rules (Back k ∷ is) t u l = leads_caught rules is l.0 u l.2 ∙ ap (λ (x : Trail). x.caught) l.1.1 ∙ caught_back k t

abbrev tree_of : Item → trees.Item
tree_of (Stepped m) = items.Step m
tree_of Turned = items.Turn
tree_of (Back k) = items.Back k

trees_of : (is : List Item) → items_of (map tree_of is) ≡ is
trees_of [] = refl
trees_of (Stepped m ∷ is) = ap (λ z. Stepped m ∷ z) (trees_of is)
trees_of (Turned ∷ is) = ap (λ z. Turned ∷ z) (trees_of is)
trees_of (Back k ∷ is) = ap (λ z. Back k ∷ z) (trees_of is)

leading_replays : (rules : List Rule) (host : Graph) (is : List Item) (u : Trail) → Leads rules is (fresh host) u → Replays rules host is u.graph
leading_replays rules host is u l =
    let root : root_of u ≡ host = (all_replay.catching_up rules (fresh host) u is ([], tt) l).root in
    let none : u.caught ≡ 0 = leads_caught rules is (fresh host) u l in
    let from : rooted u ≡ fresh host = λ i. record { graph = root i; before = []; caught = none i } in
    let j : Journal = record { trail = u; items = map tree_of is; backs = 0 } in
    let w : IsJournalOf rules j = subst (λ (z : List Item). Leads rules z (rooted u) u) (sym (trees_of is)) (subst (λ (z : Trail). Leads rules is z u) (sym from) l) in
    subst (λ (z : List Item). Replays rules host z u.graph) (trees_of is) (subst (λ (g : Graph). Replays rules g (items_of (map tree_of is)) u.graph) root (all_replay.journals rules j w).whole)

pub replays_at : (rules : List Rule) (host : Graph) (t : List Item) (n : ℕ) → AllGo rules host t n → n ≤ length t → (k : ℕ) → k ≤ n → Replays rules host (take k t) (trail_at rules host t k).graph
replays_at rules host t n g l k b = leading_replays rules host (take k t) (trail_at rules host t k) (leads_to rules host t n g l k b)

-- ---- depths

depth_undone : (g : Graph) (bs : List Graph) (c : ℕ) → length (undone_of g bs c).before ≡ length bs - 1
depth_undone g [] c = refl
depth_undone g (b ∷ bs) c = let e : length bs ≡ suc (length bs) - 1 = omega arith in e

depth_back : (k : ℕ) (t : Trail) → length (back_by k t).before ≡ length t.before - k
depth_back zero t = let e : length t.before ≡ length t.before - 0 = omega arith in e
depth_back (suc k) t =
    let d = depth_undone t.graph t.before t.caught in
    let r = depth_back k (undone t) in
    omega arith

pub depth_after : (rules : List Rule) (is : List Item) (t : Trail) (ms : List Found) (d n : ℕ) → length t.before ≡ d + n → n ≡ length ms → BacksFit n is → length (after_items rules is t).before ≡ d + length (live_from ms is)
depth_after rules [] t ms d n e f b = omega arith
depth_after rules (Stepped m ∷ is) t ms d n e f b = depth_after rules is (after_item rules (Stepped m) t) (ms ++ m ∷ []) d (n + 1) (omega arith) (ap (λ z. z + 1) f ∙ sym (length-append ms (m ∷ []))) b
depth_after rules (Turned ∷ is) t ms d n e f b = depth_after rules is t ms d n e f b
depth_after rules (Back k ∷ is) t ms d n e f b =
    let r = depth_back k t in
    let l : k ≤ n = b.0 in
    let w : n - k ≡ length (take (length ms - k) ms) = ap (λ z. z - k) f ∙ sym (length-take-le (length ms - k) ms (omega arith)) in
    depth_after rules is (back_by k t) (take (length ms - k) ms) d (n - k) (omega arith) w b.1

pub depth_live : (rules : List Rule) (host : Graph) (t : List Item) (n : ℕ) → BacksFit 0 (take n t) → depth_at rules host t n ≡ length (live (take n t))
depth_live rules host t n b = depth_after rules (take n t) (fresh host) [] 0 0 refl refl b ∙ (let e : 0 + length (live (take n t)) ≡ length (live (take n t)) = omega arith in e)

-- ---- items that replay to none

fits_from : (s : List Item) (k n : ℕ) (ms : List Found) → n ≡ length ms → BacksFit n (s ++ Back k ∷ []) → k ≤ length (live_from ms s)
fits_from [] k n ms e b = let l : k ≤ n = b.0 in omega arith
fits_from (Stepped m ∷ s) k n ms e b = fits_from s k (n + 1) (ms ++ m ∷ []) (ap (λ z. z + 1) e ∙ sym (length-append ms (m ∷ []))) b
fits_from (Turned ∷ s) k n ms e b = fits_from s k n ms e b
fits_from (Back j ∷ s) k n ms e b = fits_from s k (n - j) (take (length ms - j) ms) (ap (λ z. z - j) e ∙ sym (length-take-le (length ms - j) ms (omega arith))) b.1

live_more : (s : List Item) (ms : List Found) (i : Item) → live_from ms (s ++ i ∷ []) ≡ live_after (live_from ms s) i
live_more [] ms i = refl
live_more (j ∷ s) ms i = live_more s (live_after ms j) i

last_step : (rules : List Rule) (g : Graph) (ms : List Found) (m : Found) (h : Graph) → StepsTo rules g (ms ++ m ∷ []) h → (k : Graph) × StepsTo rules g ms k × StepsBy rules k m h
last_step rules g [] m h w = (g, refl, record { rule = w.1; is_rule = w.2; step = subst (Step w.1 g m) (sym w.4) w.3 })
last_step rules g (n ∷ ms) m h w = let r = last_step rules w.0 ms m h w.4 in (r.0, (w.0, w.1, w.2, w.3, r.1), r.2)

one_item_breaks : (rules : List Rule) (host : Graph) (s : List Item) (i : Item) (at : Trail) → All IsWellFormed rules → IsNumbered host → Replays rules host s at.graph → length at.before ≡ length (live s) → (MayGo rules i at → ⊥)
    → (h : Graph) → Replays rules host (s ++ i ∷ []) h → ⊥
one_item_breaks rules host s (Stepped m) at w n r d never h v =
    let l = last_step rules host (live s) m h (subst (λ (ms : List Found). StepsTo rules host ms h) (live_more s [] (Stepped m)) v.steps) in
    let same : l.0 ≡ at.graph = one_way rules (well_formed_at rules w) (live s) host l.0 at.graph n l.1 r.steps in
    never (record { rule = l.2.rule; is_rule = l.2.is_rule; applies = subst (λ (g : Graph). Applies l.2.rule g m) same (l.2.step.0, l.2.step.1) })
one_item_breaks rules host s Turned at w n r d never h v = never tt
one_item_breaks rules host s (Back k) at w n r d never h v = never (let l = fits_from s k 0 [] refl v.backs in omega arith)

pub breaks_off : (rules : List Rule) (host : Graph) (t : List Item) (n : ℕ) (i : Item) (depths : List ℕ) (at : Trail) → All IsWellFormed rules → IsNumbered host → slice_get t n ≡ Some i → IsWalked rules host t n depths at → (MayGo rules i at → ⊥) → BreaksOff rules host t
breaks_off rules host t n i depths at w o e k never =
    let l : n < length t = slice_get_within t n i e in
    let r = replays_at rules host t n k.all_go (omega arith) n (omega arith) in
    let next : take (n + 1) t ≡ take n t ++ i ∷ [] = rw add-one (take-suc t n i l ∙ ap (λ z. take n t ++ z ∷ []) (get_or_from_slice_get t n i i e)) in (
      n + 1,
      λ h v. one_item_breaks rules host (take n t) i at w o (subst (λ (z : Trail). Replays rules host (take n t) z.graph) (sym k.trail) r) (ap (λ (z : Trail). length z.before) k.trail ∙ depth_live rules host t n r.backs) never h
          (subst (λ (z : List Item). Replays rules host z h) next v),
    )

-- ---- what may go, goes

pub goes_may : (rules : List Rule) (i : Item) (t u : Trail) → Goes rules i t u → MayGo rules i t
goes_may rules (Stepped m) t u g = record { rule = g.1.rule; is_rule = g.1.is_rule; applies = (g.1.step.0, g.1.step.1) }
goes_may rules Turned t u g = tt
goes_may rules (Back k) t u g = g.0

pub may_at : (rules : List Rule) (host : Graph) (t : List Item) (n k : ℕ) (i : Item) (at : Trail) → AllGo rules host t n → k < n → slice_get t k ≡ Some i → at ≡ trail_at rules host t k → MayGo rules i at
may_at rules host t n k i at g l e s = subst (MayGo rules i) (sym s) (goes_may rules i (trail_at rules host t k) (trail_at rules host t (k + 1)) (g k i l e))

pub stands_more : (rules : List Rule) (host : Graph) (t : List Item) (n : ℕ) (i : Item) (at on : Trail) → slice_get t n ≡ Some i → at ≡ trail_at rules host t n → on ≡ after_item rules i at → Stands rules host t (record { trail = on; place = n + 1 })
stands_more rules host t n i at on e s a = record {
  within = let l : n < length t = slice_get_within t n i e in omega arith;
  trail = a ∙ ap (after_item rules i) s ∙ sym (trail_next rules host t n i e);
}

-- the item in memory
pub item_there : (is : List trees.Item) (n : ℕ) (i : trees.Item) → n < length is → i ≡ slice_index_or is n i → slice_get (map item_of is) n ≡ Some (item_of i)
item_there is n i l e = slice_get-map item_of is n ∙ ap (option_map item_of) (slice_get_read is (length is) n i refl l e)

-- ---- between places

after_both : (rules : List Rule) (is js : List Item) (t : Trail) → after_items rules (is ++ js) t ≡ after_items rules js (after_items rules is t)
after_both rules [] js t = refl
after_both rules (i ∷ is) js t = after_both rules is js (after_item rules i t)

pub trail_between : (rules : List Rule) (host : Graph) (t : List Item) (i j : ℕ) → i ≤ j → trail_at rules host t j ≡ after_items rules (between t i j) (trail_at rules host t i)
trail_between rules host t i j l =
    let e : j ≡ i + (j - i) = omega arith in
    ap (λ z. after_items rules (take z t) (fresh host)) e ∙ ap (λ z. after_items rules z (fresh host)) (take-add i (j - i) t) ∙ after_both rules (take i t) (between t i j) (fresh host)

pub depth_between : (rules : List Rule) (host : Graph) (t : List Item) (i j : ℕ) → i ≤ j → BacksFit 0 (between t i j) → depth_at rules host t j ≡ depth_at rules host t i + length (live (between t i j))
depth_between rules host t i j l b =
    ap (λ (z : Trail). length z.before) (trail_between rules host t i j l)
    ∙ depth_after rules (between t i j) (trail_at rules host t i) [] (depth_at rules host t i) 0 (let e : depth_at rules host t i ≡ depth_at rules host t i + 0 = omega arith in e) refl b
