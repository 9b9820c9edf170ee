-- An upgrade stands behind one item more.
use Rattle.std.proofs.Common.{◌≡◌, inl, inr, ℕ, ◌≤◌, ◌<◌, List, [], ◌∷◌, ◌++◌, length, take, sym, subst, ap, refl, ◌∙◌, arith, length-append}
use Rattle.std.specs.Prelude.{Option, Some, None, slice_get}
use Rattle.std.specs.Option.{option_map}
use Rattle.std.proofs.lemmas.Bool.{cases_lt}
use Rattle.gp_memory.proofs.Basics.{some_same, take_long, take_none as none_taken, take_short}
use Rattle.gp_values.specs.Graph.{Graph}
use Rattle.gp_syntax.specs.declared.found.Item.TheVariants as trees
use Rattle.gp_syntax.specs.Rule.{Rule, Found, kept_edges}
use Rattle.gp_syntax.specs.WellFormed.{IsWellFormed}
use Rattle.gp_syntax.specs.Step.{Applies, Step}
use Rattle.gp_syntax.specs.Run.{Item, Stepped, Turned, Back, live_after, live}
use Rattle.gp_syntax.specs.Replay.{BacksFit}
use Rattle.gp_step.specs.Laws.{IsNumbered}
use Rattle.gp_step.specs.Halves.{images_from}
use Rattle.gp_step.proofs.Afters.{numbered}
use Rattle.gp_journal.specs.Trail as trails
use Rattle.gp_journal.specs.Journal.{items_of}
use Rattle.gp_derivation.specs.declared.replay.Replay.{Replay}
use Rattle.gp_derivation.specs.StepAnew.{StepAnew, StepsAnewTo}
use Rattle.gp_derivation.specs.Upgrade.{Renumbers, LeadAlike}
use Rattle.gp_derivation.specs.inside.Table.{IsTable, as_it_was, own_numbers, moved, all_today, found_today}
use Rattle.gp_derivation.specs.inside.Table as tables
use Rattle.gp_derivation.specs.inside.Led.{LedBoth, Led}
use Rattle.gp_derivation.specs.inside.Standing.{Stands, StandsIn, ReplaysToNone, Makes}
use Rattle.gp_derivation.proofs.Tables.{own_table, own_graph, all_today_length, alike}
use Rattle.gp_derivation.proofs.Renumbered.{value_was, applies_on, applies_back, match_there}
use Rattle.gp_derivation.proofs.OneStep.{one_step_anew}
use Rattle.gp_derivation.proofs.Moves.{step_was, table_moved}
use Rattle.gp_derivation.proofs.Stacks.{live_more, OneFits, fits_more, fits_last, anew_more, anew_split, steps_more, renumbers_more, as_long, items-more, led_both, length-was, length-now, led_back}

-- ---- one item more, of any kind

alike_by : (rules : List Rule) (host : Graph) (s t : List Item) (table : List (Option ℕ)) (h : Graph) → LedBoth rules host (live s) (live t) table h → BacksFit 0 s → BacksFit 0 t → LeadAlike rules host s t
alike_by rules host s t table h l b c = record {
  was = as_it_was table h;
  now = h;
  replays_anew = record { backs = b; steps = l.was };
  replays = record { backs = c; steps = l.now };
  alike = alike table h l.table;
}

begins_more : (rules : List Rule) (host : Graph) (s t : List Item) (i j : Item) → length s ≡ length t → ((n : ℕ) → LeadAlike rules host (take n s) (take n t)) → LeadAlike rules host (s ++ i ∷ []) (t ++ j ∷ [])
    → (n : ℕ) → LeadAlike rules host (take n (s ++ i ∷ [])) (take n (t ++ j ∷ []))
begins_more rules host s t i j same old new n =
    elim (cases_lt (length s) n) [
      | inl l ↦ rw (take_long n (s ++ i ∷ []) (rw length-append (omega arith)), take_long n (t ++ j ∷ []) (rw length-append (omega arith))) new
      | inr l ↦ rw (take_short n s (i ∷ []) (omega arith), take_short n t (j ∷ []) (omega arith)) (old n)
    ]

pub stands_more : (rules : List Rule) (host : Graph) (s t : List Item) (i j : Item) (table u : List (Option ℕ)) (h k : Graph) (us vs : List (List (Option ℕ))) (bs cs : List Graph)
    → Stands rules host s t table h us bs → Renumbers i j → OneFits (length (live s)) i → OneFits (length (live t)) j → Led rules host (live_after (live s) i) (live_after (live t) j) u k vs cs
    → Stands rules host (s ++ i ∷ []) (t ++ j ∷ []) u k vs cs
stands_more rules host s t i j table u h k us vs bs cs st r a b l =
    let b_was = fits_more s i st.backs_was a in
    let b_now = fits_more t j st.backs_now b in
    let led : Led rules host (live (s ++ i ∷ [])) (live (t ++ j ∷ [])) u k vs cs = rw (live_more s i, live_more t j) l in
    record {
      items = renumbers_more s t i j st.items r;
      backs_was = b_was;
      backs_now = b_now;
      led = led;
      beginnings = begins_more rules host s t i j (as_long s t st.items) st.beginnings (alike_by rules host (s ++ i ∷ []) (t ++ j ∷ []) u k (led_both rules host (live (s ++ i ∷ [])) (live (t ++ j ∷ [])) u k vs cs led) b_was b_now);
    }

-- ---- no items

pub stands_fresh : (rules : List Rule) (host : Graph) → IsNumbered host → Stands rules host [] [] (own_numbers host 0 host.next_edge) host [] []
stands_fresh rules host w =
    let both : LedBoth rules host [] [] (own_numbers host 0 host.next_edge) host = record {
      table = own_table host w;
      was = own_graph host w;
      only = λ g e. e ∙ sym (own_graph host w);
      now = refl;
    } in
    record {
      items = tt;
      backs_was = tt;
      backs_now = tt;
      led = (refl, refl, both);
      beginnings = λ n. rw none_taken (alike_by rules host [] [] (own_numbers host 0 host.next_edge) host both tt tt);
    }

-- ---- a turn

pub stands_turn : (rules : List Rule) (host : Graph) (s : List Item) (x y : Replay) → x.trail ≡ y.trail → x.table ≡ y.table → y.items.items ≡ x.items.items ++ trees.Turn ∷ [] → StandsIn rules host s x → StandsIn rules host (s ++ Turned ∷ []) y
stands_turn rules host s x y tr ta it st =
    rw (← tr, ← ta, it, items-more)
    (stands_more rules host s (items_of x.items.items) Turned Turned x.table.now x.table.now x.trail.graph x.trail.graph x.table.before x.table.before x.trail.before x.trail.before st refl tt tt st.led)

-- ---- taking back

not_more : (k n m : ℕ) → n ≡ m → k ≤ m → k ≤ n
not_more k n m e l = omega arith

pub stands_back : (rules : List Rule) (host : Graph) (s : List Item) (k : ℕ) (x y : Replay) → k ≤ length x.trail.before → y.trail ≡ trails.back_by k x.trail → y.table ≡ tables.back_by k x.table → y.items.items ≡ x.items.items ++ trees.Back k ∷ []
    → StandsIn rules host s x → StandsIn rules host (s ++ Back k ∷ []) y
stands_back rules host s k x y l tr ta it st =
    let t = items_of x.items.items in
    rw (tr, ta, it, items-more)
    (stands_more rules host s t (Back k) (Back k) x.table.now (tables.back_by k x.table).now x.trail.graph (trails.back_by k x.trail).graph x.table.before (tables.back_by k x.table).before x.trail.before (trails.back_by k x.trail).before st refl
    (not_more k (length (live s)) (length x.trail.before) (length-was rules host (live s) (live t) x.table.now x.trail.graph x.table.before x.trail.before st.led) l)
    (not_more k (length (live t)) (length x.trail.before) (length-now rules host (live s) (live t) x.table.now x.trail.graph x.table.before x.trail.before st.led) l)
    (led_back k rules host (live s) (live t) x.table.now x.trail.graph x.table.before x.trail.before x.trail.caught l st.led))

-- more than are live
pub none_taken_back : (rules : List Rule) (host : Graph) (s t : List Item) (k : ℕ) (table : List (Option ℕ)) (h : Graph) (us : List (List (Option ℕ))) (bs : List Graph) → length bs < k → Stands rules host s t table h us bs
    → ReplaysToNone rules host (s ++ Back k ∷ [])
none_taken_back rules host s t k table h us bs l st = λ g w.
    let e : length (live s) ≡ length bs = length-was rules host (live s) (live t) table h us bs st.led in
    let f : k ≤ length (live s) = fits_last s (Back k) w.backs in
    absurd (omega arith)

pub none_back : (rules : List Rule) (host : Graph) (s : List Item) (k : ℕ) (x : Replay) → length x.trail.before < k → StandsIn rules host s x → ReplaysToNone rules host (s ++ Back k ∷ [])
none_back rules host s k x l st = none_taken_back rules host s (items_of x.items.items) k x.table.now x.trail.graph x.table.before x.trail.before l st

-- ---- a step

found_rule : (t : List (Option ℕ)) (m n : Found) (o : Option (List ℕ)) → option_map (λ es. record m { edges = es }) o ≡ Some n
    → record { rule : n.rule ≡ m.rule; nodes : n.nodes ≡ m.nodes; item : (es : List ℕ) × (o ≡ Some es) × (n ≡ record m { edges = es }) }
found_rule t m n None e = absurd (none_some e)
  where
    none_some : None ≡ Some n → ⊥
    none_some q = cc
found_rule t m n (Some es) e = record { rule = sym (ap (λ (f : Found). f.rule) (some_same e)); nodes = sym (ap (λ (f : Found). f.nodes) (some_same e)); item = (es, refl, sym (some_same e)) }

-- today's step of the match is one of the old match
pub step_anew : (r : Rule) (t : List (Option ℕ)) (h k : Graph) (m n : Found) → IsWellFormed r → IsNumbered h → IsTable t h → found_today t m ≡ Some n → Step r h n k
    → StepAnew r (as_it_was t h) m (as_it_was (moved t m.edges (images_from n.edges (kept_edges r) h.next_edge)) k)
step_anew r t h k m n wf w l f s =
    let fr = found_rule t m n (all_today t m.edges) f in
    let same = value_was r t h m n s.0 l fr.nodes in
    (s.0, applies_back r t h m n s.0 l f s.1, step_was r t h k m n s.0 wf w l f same s.1.is_match s.2)

pub both_more : (rules : List Rule) (host : Graph) (ms ns : List Found) (t : List (Option ℕ)) (h k : Graph) (m n : Found) (r : Rule)
    → slice_get rules n.rule ≡ Some r → IsWellFormed r → IsNumbered h → found_today t m ≡ Some n → Step r h n k → LedBoth rules host ms ns t h
    → LedBoth rules host (ms ++ m ∷ []) (ns ++ n ∷ []) (moved t m.edges (images_from n.edges (kept_edges r) h.next_edge)) k
both_more rules host ms ns t h k m n r is wf w f s l =
    let u = moved t m.edges (images_from n.edges (kept_edges r) h.next_edge) in
    let fr = found_rule t m n (all_today t m.edges) f in
    let same = value_was r t h m n s.0 l.table fr.nodes in
    let here : slice_get rules m.rule ≡ Some r = ap (slice_get rules) (sym fr.rule) ∙ is in
    let anew : StepAnew r (as_it_was t h) m (as_it_was u k) = step_anew r t h k m n wf w l.table f s in
    record {
      table = table_moved r t h k m n s.0 wf w l.table f same s.1.is_match s.2;
      was = anew_more rules host ms (as_it_was t h) (as_it_was u k) m l.was (r, here, anew);
      only = λ g v.
          let p = anew_split rules host ms g m v in
          let q : p.2.0 ≡ r = some_same (sym p.2.1 ∙ here) in
          one_step_anew r (as_it_was t h) m g (as_it_was u k) wf (subst (λ x. StepAnew r x m g) (l.only p.0 p.1) (subst (λ z. StepAnew z p.0 m g) q p.2.2)) anew;
      now = steps_more rules host ns h k n r is s l.now;
    }

pub stands_stepped : (rules : List Rule) (host : Graph) (s t : List Item) (m n : Found) (r : Rule) (table : List (Option ℕ)) (h k : Graph) (us : List (List (Option ℕ))) (bs : List Graph)
    → slice_get rules n.rule ≡ Some r → IsWellFormed r → IsNumbered h → found_today table m ≡ Some n → Step r h n k → Stands rules host s t table h us bs
    → Stands rules host (s ++ Stepped m ∷ []) (t ++ Stepped n ∷ []) (moved table m.edges (images_from n.edges (kept_edges r) h.next_edge)) k (table ∷ us) (h ∷ bs)
stands_stepped rules host s t m n r table h k us bs is wf w f step st =
    let fr = found_rule table m n (all_today table m.edges) f in
    let u = moved table m.edges (images_from n.edges (kept_edges r) h.next_edge) in
    let l = led_both rules host (live s) (live t) table h us bs st.led in
    let new = both_more rules host (live s) (live t) table h k m n r is wf w f step l in
    stands_more rules host s t (Stepped m) (Stepped n) table u h k us (table ∷ us) bs (h ∷ bs) st
    (fr.item.0, all_today_length table m.edges fr.item.0 fr.item.1, ap Stepped fr.item.2) tt tt
    (live s, m, live t, n, refl, refl, new, st.led)

pub stands_step : (rules : List Rule) (host : Graph) (s : List Item) (m n : Found) (x y : Replay) → found_today x.table.now m ≡ Some n → Makes rules m n x y → StandsIn rules host s x → StandsIn rules host (s ++ Stepped m ∷ []) y
stands_step rules host s m n x y f k st =
    rw (k.tables, k.graphs, k.items, items-more)
    (stands_stepped rules host s (items_of x.items.items) m n k.rule x.table.now x.trail.graph y.trail.graph x.table.before x.trail.before k.is_rule k.well_formed (numbered x.trail.graph k.graph) f k.step st)

-- where the match of no rule of that number applies today, the items replay to none
pub none_stepped : (rules : List Rule) (host : Graph) (s t : List Item) (m : Found) (table : List (Option ℕ)) (h : Graph) (us : List (List (Option ℕ))) (bs : List Graph)
    → ((r : Rule) (n : Found) → slice_get rules m.rule ≡ Some r → found_today table m ≡ Some n → Applies r h n → ⊥)
    → Stands rules host s t table h us bs → ReplaysToNone rules host (s ++ Stepped m ∷ [])
none_stepped rules host s t m table h us bs never st = λ g w.
    let l = led_both rules host (live s) (live t) table h us bs st.led in
    let p = anew_split rules host (live s) g m (subst (λ ms. StepsAnewTo rules host ms g) (live_more s (Stepped m)) w.steps) in
    let step : StepAnew p.2.0 (as_it_was table h) m g = subst (λ z. StepAnew p.2.0 z m g) (l.only p.0 p.1) p.2.2 in
    let n = match_there p.2.0 table h m step.0 l.table step.1.is_match in
    never p.2.0 n.0 p.2.1 n.1 (step.0, applies_on p.2.0 table h m n.0 step.0 l.table n.1 step.1)

pub none_step : (rules : List Rule) (host : Graph) (s : List Item) (m : Found) (x : Replay)
    → ((r : Rule) (n : Found) → slice_get rules m.rule ≡ Some r → found_today x.table.now m ≡ Some n → Applies r x.trail.graph n → ⊥)
    → StandsIn rules host s x → ReplaysToNone rules host (s ++ Stepped m ∷ [])
none_step rules host s m x never st = none_stepped rules host s (items_of x.items.items) m x.table.now x.trail.graph x.table.before x.trail.before never st
