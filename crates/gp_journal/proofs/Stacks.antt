-- What items lead to replays.
use Rattle.std.proofs.Common.{◌≡◌, ℕ, zero, suc, ◌+◌, ◌-◌, ◌≤◌, List, [], ◌∷◌, ◌++◌, map, length, take, drop, reverse, sym, subst, ap, refl, ◌∙◌, arith, length-append, length-drop, add-one}
use Rattle.std.proofs.lemmas.List.{reverse-append, length-reverse}
use Rattle.gp_memory.proofs.Basics.{append_again, append_none as no_more_items, less_none, no_more, nothing_more as nothing_added, one_less, one_more as more_steps, take_none, take_short, take_whole as take_all}
use Rattle.gp_values.specs.Graph.{Graph}
use Rattle.gp_syntax.specs.Rule.{Rule, Found}
use Rattle.gp_syntax.specs.Step.{Step}
use Rattle.gp_syntax.specs.Run.{Item, Stepped, Turned, Back, live_from, live}
use Rattle.gp_syntax.specs.Replay.{StepsTo, BacksFit, Replays}
use Rattle.gp_journal.specs.Trail.{Trail, root_from, root_of, led, back_by, rooted}
use Rattle.gp_journal.specs.Leads.{StepsBy, Led, IsTrailOf, Goes, Leads}
use Rattle.gp_journal.specs.Journal.{Journal, IsJournalOf, items_of}
use Rattle.gp_journal.specs.Laws.{TrailReplays, CatchingUpReplays, JournalReplays, TrailsAndJournalsReplay}
use Rattle.gp_journal.proofs.Replays.{rooted_back}

as_high : (rules : List Rule) (fs : List Found) (g : Graph) (bs : List Graph) → Led rules fs g bs → length fs ≡ length bs
as_high rules [] g [] s = refl
as_high rules [] g (b ∷ bs) s = absurd s
as_high rules (f ∷ fs) g [] s = absurd s
as_high rules (f ∷ fs) g (b ∷ bs) s = ap suc (as_high rules fs b bs s.1)

steps_more : (rules : List Rule) (g : Graph) (ms : List Found) (h k : Graph) (f : Found) → StepsTo rules g ms h → StepsBy rules h f k → StepsTo rules g (ms ++ f ∷ []) k
steps_more rules g [] h k f w l = (k, l.rule, l.is_rule, subst (λ x. Step l.rule x f k) w l.step, refl)
steps_more rules g (m ∷ ms) h k f w l = (w.0, w.1, w.2, w.3, steps_more rules w.0 ms h k f w.4 l)

last_first : {X : Type 0} (xs : List X) (x : X) → reverse (x ∷ xs) ≡ reverse xs ++ x ∷ []
last_first xs x = reverse-append (x ∷ []) xs

steps_to : (rules : List Rule) (fs : List Found) (g : Graph) (bs : List Graph) → Led rules fs g bs → StepsTo rules (root_from g bs) (reverse fs) g
steps_to rules [] g [] s = refl
steps_to rules [] g (b ∷ bs) s = absurd s
steps_to rules (f ∷ fs) g [] s = absurd s
steps_to rules (f ∷ fs) g (b ∷ bs) s = rw last_first (steps_more rules (root_from b bs) (reverse fs) b g f (steps_to rules fs b bs s.1) s.0)

less_last : {X : Type 0} (k : ℕ) (xs : List X) → take (length (reverse xs) - k) (reverse xs) ≡ reverse (drop k xs)
less_last zero xs = rw (less_none (length (reverse xs))) (take_all (reverse xs))
less_last (suc k) [] = take_none (0 - suc k)
less_last (suc k) (x ∷ xs) =
    rw (last_first, length-append, one_less (length (reverse xs)) k)
    (take_short (length (reverse xs) - k) (reverse xs) (x ∷ []) (no_more (length (reverse xs)) k) ∙ less_last k xs)

drop_none : {X : Type 0} (k : ℕ) → drop {A = X} k [] ≡ []
drop_none zero = refl
drop_none (suc k) = refl

pub stack_back : (rules : List Rule) (k : ℕ) (fs : List Found) (g : Graph) (bs : List Graph) (c : ℕ) → Led rules fs g bs
    → Led rules (drop k fs) (back_by k (record { graph = g; before = bs; caught = c })).graph (back_by k (record { graph = g; before = bs; caught = c })).before
stack_back rules zero fs g bs c s = s
stack_back rules (suc k) [] g [] c s = subst (λ l. Led rules l (back_by k (record { graph = g; before = []; caught = c })).graph (back_by k (record { graph = g; before = []; caught = c })).before) (drop_none k) (stack_back rules k [] g [] c s)
stack_back rules (suc k) [] g (b ∷ bs) c s = absurd s
stack_back rules (suc k) (f ∷ fs) g [] c s = absurd s
stack_back rules (suc k) (f ∷ fs) g (b ∷ bs) c s = stack_back rules k fs b bs c s.1

pub record Kept (rules : List Rule) (is : List Item) (fs : List Found) (u : Trail) : Type 0 where
  pub found : List Found
  pub stack : Led rules found u.graph u.before
  pub live : live_from (reverse fs) is ≡ reverse found
  pub backs : BacksFit (length fs) is

at_most : (k n m : ℕ) → k ≤ m → n ≡ m → k ≤ n
at_most k n m h e = omega arith

pub along : (rules : List Rule) (is : List Item) (t u : Trail) (fs : List Found) → Leads rules is t u → Led rules fs t.graph t.before → Kept rules is fs u
along rules [] t u fs w s = record { found = fs; stack = subst (λ (x : Trail). Led rules fs x.graph x.before) (sym w) s; live = refl; backs = tt }
along rules (Stepped f ∷ is) t u fs w s =
    let rest = along rules is w.0 u (f ∷ fs) w.2 (subst (λ (x : Trail). Led rules (f ∷ fs) x.graph x.before) (sym w.1.2) (w.1.1, s)) in
    record { found = rest.found; stack = rest.stack; live = ap (λ l. live_from l is) (sym (last_first fs f)) ∙ rest.live; backs = rw add-one rest.backs }
along rules (Turned ∷ is) t u fs w s =
    let rest = along rules is w.0 u fs w.2 (subst (λ (x : Trail). Led rules fs x.graph x.before) (sym w.1) s) in
    record { found = rest.found; stack = rest.stack; live = rest.live; backs = rest.backs }
along rules (Back k ∷ is) t u fs w s =
    let rest = along rules is w.0 u (drop k fs) w.2 (subst (λ (x : Trail). Led rules (drop k fs) x.graph x.before) (sym w.1.1) (stack_back rules k fs t.graph t.before t.caught s)) in
    record {
      found = rest.found;
      stack = rest.stack;
      live = ap (λ l. live_from l is) (less_last k fs) ∙ rest.live;
      backs = (at_most k (length fs) (length t.before) w.1.0 (as_high rules fs t.graph t.before s), subst (λ n. BacksFit n is) (length-drop k fs) rest.backs);
    }

-- ---- journals

goes_rooted : (rules : List Rule) (i : Item) (t u : Trail) → Goes rules i t u → rooted u ≡ rooted t
goes_rooted rules (Stepped f) t u g = ap rooted g.2
goes_rooted rules Turned t u g = ap rooted g
goes_rooted rules (Back k) t u g = ap rooted g.1 ∙ rooted_back k t

leads_rooted : (rules : List Rule) (is : List Item) (t u : Trail) → Leads rules is t u → rooted u ≡ rooted t
leads_rooted rules [] t u w = ap rooted w
leads_rooted rules (i ∷ is) t u w = leads_rooted rules is w.0 u w.2 ∙ goes_rooted rules i t w.0 w.1

begins : (rules : List Rule) (n : ℕ) (is : List Item) (t u : Trail) → Leads rules is t u → (m : Trail) × Leads rules (take n is) t m
begins rules zero is t u w = (t, refl)
begins rules (suc n) [] t u w = (t, refl)
begins rules (suc n) (i ∷ is) t u w = let b = begins rules n is w.0 u w.2 in (b.0, (w.0, w.1, b.1))

replays_to : (rules : List Rule) (is : List Item) (t u : Trail) → Leads rules is (rooted t) u → Replays rules (root_of t) is u.graph
replays_to rules is t u w =
    let k = along rules is (rooted t) u [] w tt in
    let same : root_of u ≡ root_of t = ap (λ (x : Trail). x.graph) (leads_rooted rules is (rooted t) u w) in
    record {
      backs = k.backs;
      steps = rw k.live (subst (λ g. StepsTo rules g (reverse k.found) u.graph) same (steps_to rules k.found u.graph u.before k.stack));
    }

-- ---- trails

pub stepped_of : (rules : List Rule) (t : Trail) (f : Found) (h : Graph) → StepsBy rules t.graph f h → IsTrailOf rules t → IsTrailOf rules (led t h)
stepped_of rules t f h l w = (f ∷ w.0, (l, w.1))

pub back_of : (rules : List Rule) (k : ℕ) (t : Trail) → IsTrailOf rules t → IsTrailOf rules (back_by k t)
back_of rules k t w = (drop k w.0, stack_back rules k w.0 t.graph t.before t.caught w.1)

pub leads_of : (rules : List Rule) (is : List Item) (t u : Trail) → Leads rules is t u → IsTrailOf rules t → IsTrailOf rules u
leads_of rules is t u l w = let k = along rules is t u w.0 l w.1 in (k.found, k.stack)

pub ended : (n : ℕ) (t u : Trail) → n ≡ 0 → back_by n t ≡ u → u ≡ t
ended n t u z e = sym e ∙ ap (λ k. back_by k t) z

-- ---- live steps, and then items

live_steps : (ms fs : List Found) (is : List Item) → live_from ms (map Stepped fs ++ is) ≡ live_from (ms ++ fs) is
live_steps ms [] is = ap (λ l. live_from l is) (sym (no_more_items ms))
live_steps ms (f ∷ fs) is = live_steps (ms ++ f ∷ []) fs is ∙ ap (λ l. live_from l is) (append_again ms (f ∷ []) fs)

backs_steps : (n : ℕ) (fs : List Found) (is : List Item) → BacksFit (n + length fs) is → BacksFit n (map Stepped fs ++ is)
backs_steps n [] is b = subst (λ k. BacksFit k is) (nothing_added n) b
backs_steps n (f ∷ fs) is b = backs_steps (n + 1) fs is (subst (λ k. BacksFit k is) (sym (more_steps n (length fs))) b)

from_none : (n : ℕ) → n ≡ 0 + n
from_none n = omega arith

after_steps : (rules : List Rule) (fs : List Found) (is : List Item) (t u : Trail) → Leads rules is t u → Led rules fs t.graph t.before → Replays rules (root_of t) (map Stepped (reverse fs) ++ is) u.graph
after_steps rules fs is t u w s =
    let k = along rules is t u fs w s in
    let same : root_of u ≡ root_of t = ap (λ (x : Trail). x.graph) (leads_rooted rules is t u w) in
    let l : live (map Stepped (reverse fs) ++ is) ≡ reverse k.found = live_steps [] (reverse fs) is ∙ k.live in
    let n : length fs ≡ 0 + length (reverse fs) = sym (length-reverse fs) ∙ from_none (length (reverse fs)) in
    record {
      backs = backs_steps 0 (reverse fs) is (subst (λ z. BacksFit z is) n k.backs);
      steps = rw l (subst (λ g. StepsTo rules g (reverse k.found) u.graph) same (steps_to rules k.found u.graph u.before k.stack));
    }

steps_alone : (rules : List Rule) (fs : List Found) (t : Trail) → Led rules fs t.graph t.before → Replays rules (root_of t) (map Stepped (reverse fs)) t.graph
steps_alone rules fs t s = subst (λ is. Replays rules (root_of t) is t.graph) (no_more_items (map Stepped (reverse fs))) (after_steps rules fs [] t t refl s)

-- ---- the laws

trail_replays : (rules : List Rule) (t : Trail) → IsTrailOf rules t → TrailReplays rules t
trail_replays rules t w = record { live = reverse w.0; depth = length-reverse w.0 ∙ as_high rules w.0 t.graph t.before w.1; replays = steps_alone rules w.0 t w.1 }

catching_up_replays : (rules : List Rule) (t u : Trail) (is : List Item) → IsTrailOf rules t → Leads rules is t u → CatchingUpReplays rules t is u
catching_up_replays rules t u is w l = record {
  live = reverse w.0;
  steps = steps_alone rules w.0 t w.1;
  root = ap (λ (x : Trail). x.graph) (leads_rooted rules is t u l);
  replays = after_steps rules w.0 is t u l w.1;
}

journal_replays : (rules : List Rule) (j : Journal) → IsJournalOf rules j → JournalReplays rules j
journal_replays rules j w = record {
  whole = replays_to rules (items_of j.items) j.trail j.trail w;
  beginnings = λ n. let b = begins rules n (items_of j.items) (rooted j.trail) j.trail w in (b.0.graph, replays_to rules (take n (items_of j.items)) j.trail b.0 b.1);
}

pub all_replay : TrailsAndJournalsReplay
all_replay = record {
  trails = trail_replays;
  catching_up = catching_up_replays;
  journals = journal_replays;
  apart = λ rules j w. leads_of rules (items_of j.items) (rooted j.trail) j.trail w ([], tt);
}
