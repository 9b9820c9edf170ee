-- Items have an upgrade, or break at one of them.
use Rattle.std.proofs.Common.{◌≡◌, ◌⊎◌, inl, inr, ℕ, ◌+◌, ◌≤◌, List, [], ◌∷◌, ◌++◌, All, length, take, sym, ap, subst, refl, ◌∙◌, arith, append_assoc, append-nil, length-append}
use Rattle.std.specs.Prelude.{Option, Some, None, slice_get}
use Rattle.std.proofs.lemmas.Bool.{cases_lt}
use Rattle.std.proofs.lemmas.Option.{none-some}
use Rattle.gp_memory.proofs.Basics.{some_same, take_long, take_short}
use Rattle.gp_values.specs.Graph.{Graph}
use Rattle.gp_syntax.specs.Rule.{Rule, Found, kept_edges}
use Rattle.gp_syntax.specs.Step.{Applies}
use Rattle.gp_syntax.specs.WellFormed.{IsWellFormed}
use Rattle.gp_syntax.specs.Run.{Item, Stepped, Turned, Back, live}
use Rattle.gp_match.specs.Judge.{Judged, judged, applies, faulty, neither}
use Rattle.gp_match.proofs.Judges.{judged_match}
use Rattle.gp_step.specs.Laws.{IsNumbered}
use Rattle.gp_step.specs.After.{after}
use Rattle.gp_step.specs.Halves.{images_from}
use Rattle.gp_step.proofs.Afters.{leads_on}
use Rattle.gp_journal.specs.Trail as trails
use Rattle.gp_certify.proofs.Walks.{well_formed_at}
use Rattle.gp_derivation.specs.StepAnew.{ReplaysAnew}
use Rattle.gp_derivation.specs.Upgrade.{IsUpgrade, BreaksAtItem}
use Rattle.gp_derivation.specs.inside.Table.{found_today}
use Rattle.gp_derivation.specs.inside.Table as tables
use Rattle.gp_derivation.specs.inside.Standing.{Stands, ReplaysToNone}
use Rattle.gp_derivation.proofs.Stacks.{led_both, length-was, length-now, led_back}
use Rattle.gp_derivation.proofs.Followed.{same_rule}
use Rattle.gp_derivation.proofs.Standings.{stands_more, stands_fresh, stands_stepped, none_stepped, none_taken_back}
use Rattle.gp_derivation.proofs.Twins.{numbered_on}

-- a match applies or does not
applies_or_not : (r : Rule) (g : Graph) (m : Found) → IsWellFormed r → Applies r g m ⊎ (Applies r g m → ⊥)
applies_or_not r g m w = by (judged r g m) refl
  where
    by : (j : Judged) → judged r g m ≡ j → Applies r g m ⊎ (Applies r g m → ⊥)
    by applies e = inl ((judged_match r g m w).to_apply.0 e)
    by (faulty k) e = inr (λ a. let f = (judged_match r g m w).to_apply.1 a in absurd cc)
    by neither e = inr (λ a. let f = (judged_match r g m w).to_apply.1 a in absurd cc)

-- an upgrade of these items
record Stood (rules : List Rule) (host : Graph) (s : List Item) : Type 0 where
  items : List Item
  table : List (Option ℕ)
  graph : Graph
  tables : List (List (Option ℕ))
  graphs : List Graph
  stands : Stands rules host s items table graph tables graphs

module _ (rules : List Rule) (host : Graph) (w : All IsWellFormed rules) (n : IsNumbered host) where
  abbrev Next : List Item → Item → Type 0
  Next s i = Stood rules host (s ++ i ∷ []) ⊎ ReplaysToNone rules host (s ++ i ∷ [])

  -- ---- one item more

  turned : (s : List Item) → Stood rules host s → Next s Turned
  turned s x = inl (record {
    items = x.items ++ Turned ∷ [];
    table = x.table;
    graph = x.graph;
    tables = x.tables;
    graphs = x.graphs;
    stands = stands_more rules host s x.items Turned Turned x.table x.table x.graph x.graph x.tables x.tables x.graphs x.graphs x.stands refl tt tt x.stands.led;
  })

  gone_back : (s : List Item) (k : ℕ) → Stood rules host s → Next s (Back k)
  gone_back s k x =
      elim (cases_lt (length x.graphs) k) [
        | inl l ↦ inr (none_taken_back rules host s x.items k x.table x.graph x.tables x.graphs l x.stands)
        | inr l ↦ inl (back l)
      ]
    where
      back : k ≤ length x.graphs → Stood rules host (s ++ Back k ∷ [])
      back l =
          let t : tables.Tables = tables.back_by k (record { now = x.table; before = x.tables }) in
          let h : trails.Trail = trails.back_by k (record { graph = x.graph; before = x.graphs; caught = 0 }) in
          let long = length-was rules host (live s) (live x.items) x.table x.graph x.tables x.graphs x.stands.led in
          let now = length-now rules host (live s) (live x.items) x.table x.graph x.tables x.graphs x.stands.led in
          record {
            items = x.items ++ Back k ∷ [];
            table = t.now;
            graph = h.graph;
            tables = t.before;
            graphs = h.before;
            stands = stands_more rules host s x.items (Back k) (Back k) x.table t.now x.graph h.graph x.tables t.before x.graphs h.before x.stands refl (omega arith) (omega arith)
                (led_back k rules host (live s) (live x.items) x.table x.graph x.tables x.graphs 0 l x.stands.led);
          }

  stepped_by : (s : List Item) (m : Found) (x : Stood rules host s) (r : Rule) (j : Found) → slice_get rules m.rule ≡ Some r → found_today x.table m ≡ Some j → Next s (Stepped m)
  stepped_by s m x r j is f =
      elim (applies_or_not r x.graph j (well_formed_at rules w m.rule r is)) [
        | inl a ↦ inl (made a)
        | inr never ↦ inr (none_stepped rules host s x.items m x.table x.graph x.tables x.graphs (not_applying never) x.stands)
      ]
    where
      not_applying : (Applies r x.graph j → ⊥) → (q : Rule) (o : Found) → slice_get rules m.rule ≡ Some q → found_today x.table m ≡ Some o → Applies q x.graph o → ⊥
      not_applying never q o there g a =
          let same : q ≡ r = some_same (sym there ∙ is) in
          let one : o ≡ j = some_same (sym g ∙ f) in
          never (subst (λ z. Applies z x.graph j) same (subst (Applies q x.graph) one a))

      made : Applies r x.graph j → Stood rules host (s ++ Stepped m ∷ [])
      made a =
          let well = well_formed_at rules w m.rule r is in
          let low = numbered_on rules (well_formed_at rules w) (live x.items) host x.graph n (led_both rules host (live s) (live x.items) x.table x.graph x.tables x.graphs x.stands.led).now in
          let here : slice_get rules j.rule ≡ Some r = ap (slice_get rules) (same_rule x.table m j f) ∙ is in
          record {
            items = x.items ++ Stepped j ∷ [];
            table = tables.moved x.table m.edges (images_from j.edges (kept_edges r) x.graph.next_edge);
            graph = after r x.graph j;
            tables = x.table ∷ x.tables;
            graphs = x.graph ∷ x.graphs;
            stands = stands_stepped rules host s x.items m j r x.table x.graph (after r x.graph j) x.tables x.graphs here well low f (leads_on r x.graph j well low a) x.stands;
          }

  stepped : (s : List Item) (m : Found) → Stood rules host s → Next s (Stepped m)
  stepped s m x = by (slice_get rules m.rule) refl
    where
      with_rule : (r : Rule) → slice_get rules m.rule ≡ Some r → (o : Option Found) → found_today x.table m ≡ o → Next s (Stepped m)
      with_rule r is None f = inr (none_stepped rules host s x.items m x.table x.graph x.tables x.graphs (λ q j there g a. none-some j (sym f ∙ g)) x.stands)
      with_rule r is (Some j) f = stepped_by s m x r j is f

      by : (o : Option Rule) → slice_get rules m.rule ≡ o → Next s (Stepped m)
      by None e = inr (none_stepped rules host s x.items m x.table x.graph x.tables x.graphs (λ q j there g a. none-some q (sym e ∙ there)) x.stands)
      by (Some r) e = with_rule r e (found_today x.table m) refl

  next : (s : List Item) (i : Item) → Stood rules host s → Next s i
  next s (Stepped m) x = stepped s m x
  next s Turned x = turned s x
  next s (Back k) x = gone_back s k x

  -- ---- all of them

  abbrev Told : List Item → Type 0
  Told s = ((t : List Item) × IsUpgrade rules host s t) ⊎ ((k : ℕ) × BreaksAtItem rules host s k)

  first_ones : (s : List Item) (i : Item) (rest : List Item) → take (length s + 1) (s ++ i ∷ rest) ≡ s ++ i ∷ []
  first_ones s i rest =
      let l : length (s ++ i ∷ []) ≡ length s + 1 = length-append s (i ∷ []) in
      ap (take (length s + 1)) (sym (append_assoc s (i ∷ []) rest)) ∙ take_short (length s + 1) (s ++ i ∷ []) rest (omega arith) ∙ take_long (length s + 1) (s ++ i ∷ []) (omega arith)

  breaks_at : (s : List Item) (i : Item) (rest : List Item) → Stood rules host s → ReplaysToNone rules host (s ++ i ∷ []) → BreaksAtItem rules host (s ++ i ∷ rest) (length s)
  breaks_at s i rest x none = record {
    before = λ k l. let b = x.stands.beginnings k in (b.was, subst (λ z. ReplaysAnew rules host z b.was) (sym (take_short k s (i ∷ rest) l)) b.replays_anew);
    none = λ g v. none g (subst (λ z. ReplaysAnew rules host z g) (first_ones s i rest) v);
  }

  on_from : (s rest : List Item) → Stood rules host s → Told (s ++ rest)
  on_from s [] x = inl (x.items, subst (λ z. IsUpgrade rules host z x.items) (sym (append-nil s)) (record { items = x.stands.items; beginnings = x.stands.beginnings }))
  on_from s (i ∷ rest) x =
      elim (next s i x) [
        | inl y ↦ subst Told (append_assoc s (i ∷ []) rest) (on_from (s ++ i ∷ []) rest y)
        | inr none ↦ inr (length s, breaks_at s i rest x none)
      ]

  pub upgraded_or_broken : (s : List Item) → Told s
  upgraded_or_broken s = on_from [] s (record { items = []; table = tables.own_numbers host 0 host.next_edge; graph = host; tables = []; graphs = []; stands = stands_fresh rules host n })

  -- items that do not break have an upgrade
  pub replayed_upgraded : (s : List Item) → ((k : ℕ) → (g : Graph) × ReplaysAnew rules host (take k s) g) → (t : List Item) × IsUpgrade rules host s t
  replayed_upgraded s replays =
      elim (upgraded_or_broken s) [
        | inl t ↦ t
        | inr b ↦ (let r = replays (b.0 + 1) in absurd (b.1.none r.0 r.1))
      ]
