-- The step that makes all edges anew, of the graph as it was, goes through the renumbering with today's step.
use Rattle.std.proofs.Common.{◌≡◌, ◌⊎◌, inl, inr, ℕ, zero, suc, ◌+◌, ◌-◌, ◌<◌, ◌≤◌, List, [], ◌∷◌, ◌++◌, map, take, length, count_by, Option, Some, None, IsSome, is_none, slice_get, slice_index, Contains, refl, sym, ap, subst, ◌∙◌, arith, ext_get_or, length-append}
use Rattle.std.specs.Prelude.{option_and_then}
use Rattle.std.specs.Option.{option_map}
use Rattle.std.proofs.lemmas.Bool.{cases_eq, cases_lt}
use Rattle.std.proofs.lemmas.List.{length-map}
use Rattle.std.proofs.lemmas.Option.{none-some, slice_get_within}
use Rattle.gp_memory.proofs.Basics.{first_or_later as split_head, here as at_head, is_some_of, later as behind, none_in, some_at as element, some_same, some_there as some_of, standing, stands_in}
use Rattle.gp_values.specs.declared.marks.EdgeMark.TheVariants as edge_marks
use Rattle.gp_values.specs.Apart.{AreApart}
use Rattle.gp_values.specs.Graph.{Graph, Edge, edge_at}
use Rattle.gp_syntax.specs.Expression.{Expression}
use Rattle.gp_syntax.specs.Value.{Assignment, value_of}
use Rattle.gp_syntax.specs.Rule.{Rule, RightEdge, Found, kept_edge, kept_edges}
use Rattle.gp_syntax.specs.Match.{MatchBy, setting_of}
use Rattle.gp_syntax.specs.Step.{Places, MakesEdge, StepBy, made_mark, found_edge}
use Rattle.gp_syntax.specs.WellFormed.{IsWellFormed}
use Rattle.gp_syntax.proofs.Unique.{contained}
use Rattle.gp_step.specs.Laws.{IsNumbered}
use Rattle.gp_step.specs.Halves.{image_of, next_of, images_from}
use Rattle.gp_step.proofs.Halves.{Keeps, same_place, length-images, count-cons}
use Rattle.gp_step.proofs.Afters.{keeps_edges}
use Rattle.gp_derivation.specs.StepAnew.{StepAnewBy}
use Rattle.gp_derivation.specs.inside.Table.{IsTable, today, all_today, found_today, as_it_was, emptied, all_emptied, moved}
use Rattle.gp_derivation.proofs.Tables.{mapped, edge_was, edge_then, all_today_length, all_today_at}

-- ---- what stands in a table after a step

pub today_past : (t : List (Option ℕ)) (e : ℕ) → length t ≤ e → today t e ≡ None
today_past [] e l = refl
today_past (o ∷ os) zero l = absurd (omega arith)
today_past (o ∷ os) (suc e) l = today_past os e (omega arith)

pub today_within : (t : List (Option ℕ)) (e k : ℕ) → today t e ≡ Some k → e < length t
today_within t e k h = elim (cases_lt e (length t)) [ inl l ↦ l | inr l ↦ absurd (none-some k (sym (today_past t e l) ∙ h)) ]

today_left : (s t : List (Option ℕ)) (e : ℕ) → e < length s → today (s ++ t) e ≡ today s e
today_left [] t e l = absurd (omega arith)
today_left (o ∷ os) t zero l = refl
today_left (o ∷ os) t (suc e) l = today_left os t e (omega arith)

today_right : (s t : List (Option ℕ)) (i e : ℕ) → e ≡ length s + i → today (s ++ t) e ≡ today t i
today_right [] t i e h = let same : e ≡ i = omega arith in ap (today t) same
today_right (o ∷ os) t i zero h = absurd (omega arith)
today_right (o ∷ os) t i (suc e) h = today_right os t i e (omega arith)

today_some : (made : List ℕ) (i : ℕ) → i < length made → today (map Some made) i ≡ Some (slice_index made i)
today_some [] i l = absurd (omega arith)
today_some (n ∷ ns) zero l = refl
today_some (n ∷ ns) (suc i) l = today_some ns i (omega arith)

emptied_here : (e : ℕ) (t : List (Option ℕ)) → today (emptied e t) e ≡ None
emptied_here e [] = refl
emptied_here zero (o ∷ os) = refl
emptied_here (suc e) (o ∷ os) = emptied_here e os

emptied_apart : (e k : ℕ) (t : List (Option ℕ)) → (k ≡ e → ⊥) → today (emptied e t) k ≡ today t k
emptied_apart e k [] d = refl
emptied_apart zero zero (o ∷ os) d = absurd (d refl)
emptied_apart zero (suc k) (o ∷ os) d = refl
emptied_apart (suc e) zero (o ∷ os) d = refl
emptied_apart (suc e) (suc k) (o ∷ os) d = emptied_apart e k os (λ i. d (ap suc i))

length-emptied : (e : ℕ) (t : List (Option ℕ)) → length (emptied e t) ≡ length t
length-emptied e [] = refl
length-emptied zero (o ∷ os) = refl
length-emptied (suc e) (o ∷ os) = ap suc (length-emptied e os)

pub length-all_emptied : (es : List ℕ) (t : List (Option ℕ)) → length (all_emptied es t) ≡ length t
length-all_emptied [] t = refl
length-all_emptied (e ∷ es) t = length-all_emptied es (emptied e t) ∙ length-emptied e t

stays_empty : (es : List ℕ) (k : ℕ) (t : List (Option ℕ)) → today t k ≡ None → today (all_emptied es t) k ≡ None
stays_empty [] k t h = h
stays_empty (e ∷ es) k t h =
    stays_empty es k (emptied e t) (elim (cases_eq k e) [
      | inl i ↦ subst (λ n. today (emptied e t) n ≡ None) (sym i) (emptied_here e t)
      | inr d ↦ emptied_apart e k t d ∙ h
    ])

pub all_emptied_in : (es : List ℕ) (k : ℕ) (t : List (Option ℕ)) → Contains es k → today (all_emptied es t) k ≡ None
all_emptied_in [] k t c = absurd (none_in k c)
all_emptied_in (e ∷ es) k t c =
    elim (split_head e es k c) [
      | inl i ↦ stays_empty es k (emptied e t) (subst (λ n. today (emptied e t) n ≡ None) i (emptied_here e t))
      | inr d ↦ all_emptied_in es k (emptied e t) d
    ]

pub all_emptied_apart : (es : List ℕ) (k : ℕ) (t : List (Option ℕ)) → (Contains es k → ⊥) → today (all_emptied es t) k ≡ today t k
all_emptied_apart [] k t d = refl
all_emptied_apart (e ∷ es) k t d = all_emptied_apart es k (emptied e t) (λ c. d (behind e es k c)) ∙ emptied_apart e k t (λ i. d (at_head e es k (sym i)))

module _ (t : List (Option ℕ)) (taken made : List ℕ) where
  pub length-moved : length (moved t taken made) ≡ length t + length made
  length-moved =
      let a = length-append (all_emptied taken t) (map Some made) in
      let b = length-all_emptied taken t in
      let c = length-map made (λ (n : ℕ). Some n) in
      omega arith

  pub moved_taken : (e : ℕ) → e < length t → Contains taken e → today (moved t taken made) e ≡ None
  moved_taken e l c = let b = length-all_emptied taken t in today_left (all_emptied taken t) (map Some made) e (omega arith) ∙ all_emptied_in taken e t c

  pub moved_old : (e : ℕ) → e < length t → (Contains taken e → ⊥) → today (moved t taken made) e ≡ today t e
  moved_old e l d = let b = length-all_emptied taken t in today_left (all_emptied taken t) (map Some made) e (omega arith) ∙ all_emptied_apart taken e t d

  pub moved_made : (i e : ℕ) → e ≡ length t + i → i < length made → today (moved t taken made) e ≡ Some (slice_index made i)
  moved_made i e h l = let b = length-all_emptied taken t in today_right (all_emptied taken t) (map Some made) i e (omega arith) ∙ today_some made i l

  pub moved_past : (e : ℕ) → length t + length made ≤ e → today (moved t taken made) e ≡ None
  moved_past e l = let b = length-moved in today_past (moved t taken made) e (omega arith)

  -- a number that is in the table after the step was there and was not taken, or is one of those made
  pub moved_cases : (e k : ℕ) → today (moved t taken made) e ≡ Some k
      → ((today t e ≡ Some k) × (Contains taken e → ⊥)) ⊎ ((i : ℕ) × (i < length made) × (e ≡ length t + i) × (slice_index made i ≡ k))
  moved_cases e k h =
      elim (cases_lt e (length t)) [
        | inl l ↦ elim (contained taken e) [
          | inl c ↦ absurd (none-some k (sym (moved_taken e l c) ∙ h))
          | inr d ↦ inl (sym (moved_old e l d) ∙ h, d)
        ]
        | inr l ↦ elim (cases_lt (e - length t) (length made)) [
          | inl b ↦ (let same : e ≡ length t + (e - length t) = omega arith in inr (e - length t, b, same, some_same (sym (moved_made (e - length t) e same b) ∙ h)))
          | inr b ↦ absurd (none-some k (sym (moved_past e (omega arith)) ∙ h))
        ]
      ]

-- ---- where a step puts the edges of the right side

image_old : (found : List ℕ) (kept : List (Option ℕ)) (k j i : ℕ) → slice_get kept j ≡ Some (Some i) → slice_index (images_from found kept k) j ≡ slice_index found i
image_old found [] k j i h = absurd (none-some (Some i) h)
image_old found (o ∷ os) k zero i h = ap (λ z. image_of found z k) (some_same h)
image_old found (o ∷ os) k (suc j) i h = image_old found os (next_of o k) j i h

image_new : (found : List ℕ) (kept : List (Option ℕ)) (k j : ℕ) → slice_get kept j ≡ Some None → slice_index (images_from found kept k) j ≡ k + count_by is_none (take j kept)
image_new found [] k j h = absurd (none-some None h)
image_new found (o ∷ os) k zero h = ap (λ z. image_of found z k) (some_same h) ∙ (omega arith)
image_new found (None ∷ os) k (suc j) h =
    let i = image_new found os (k + 1) j h in
    let c = count-cons None (take j os) in
    i ∙ (omega arith)
image_new found (Some n ∷ os) k (suc j) h =
    let i = image_new found os k j h in
    let c = count-cons (Some n) (take j os) in
    i ∙ (omega arith)

-- the images of the right side are told by what it keeps
pub images_are : (found : List ℕ) (kept : List (Option ℕ)) (next : ℕ) (images : List ℕ) → Places kept found next images → images ≡ images_from found kept next
images_are found kept next images p =
    ext_get_or 0 images (images_from found kept next) (p.count ∙ sym (length-images found kept next)) (λ j l.
    let n : length images ≡ length kept = p.count in
    let s = element kept j (omega arith) in
    by j s.0 s.1)
  where
    by : (j : ℕ) (o : Option ℕ) → slice_get kept j ≡ Some o → slice_index images j ≡ slice_index (images_from found kept next) j
    by j (Some i) e = p.old j i e ∙ sym (image_old found kept next j i e)
    by j None e = p.new j e ∙ sym (image_new found kept next j e)

pub made_of : (r : Rule) (h : Graph) (n : Found) (images : List ℕ) → Places (kept_edges r) n.edges h.next_edge images → images ≡ images_from n.edges (kept_edges r) h.next_edge
made_of r h n images p = images_are n.edges (kept_edges r) h.next_edge images p

-- ---- the step

module _ (r : Rule) (t : List (Option ℕ)) (h k : Graph) (m : Found) (es : List ℕ) (a : Assignment) (c : IsWellFormed r) (w : IsNumbered h) (table : IsTable t h) (all : all_today t m.edges ≡ Some es)
    (b : MatchBy r h (record m { edges = es }) a) (s : StepBy r h (record m { edges = es }) a k) where
  abbrev n : Found
  n = record m { edges = es }

  abbrev made : List ℕ
  made = images_from es (kept_edges r) h.next_edge

  abbrev after : List (Option ℕ)
  after = moved t m.edges made

  -- the right edges stand at what is made
  same : s.edge_images ≡ made
  same = made_of r h n s.edge_images s.edge_places

  as_many : length m.edges ≡ length es
  as_many = sym (all_today_length t m.edges es all)

  count : length made ≡ length r.right_edges
  count = length-images es (kept_edges r) h.next_edge ∙ length-map r.right_edges (kept_edge r)

  -- ---- the edges of today's graph after the step

  right_at : (j : ℕ) (q : RightEdge) → slice_get r.right_edges j ≡ Some q → (d : Edge) × (edge_at k (slice_index made j) ≡ Some d) × MakesEdge r h n a s.images q d
  right_at j q e = subst (λ is. (d : Edge) × (edge_at k (slice_index is j) ≡ Some d) × MakesEdge r h n a s.images q d) same (s.right_edges j q e)

  gone_at : (q : ℕ) → (Contains made q → ⊥) → Contains es q → edge_at k q ≡ None
  gone_at q out d = s.deleted_edges q (λ i. out (subst (λ is. Contains is q) same i)) d

  other_at : (q : ℕ) → (Contains made q → ⊥) → (Contains es q → ⊥) → edge_at k q ≡ edge_at h q
  other_at q out d = s.other_edges q (λ i. out (subst (λ is. Contains is q) same i)) d

  made_apart : AreApart made
  made_apart = subst AreApart same s.edge_places.apart

  keeps : Keeps (kept_edges r) es h.next_edge
  keeps = keeps_edges r h n a w b c

  -- what is made was matched, or has a new number
  made_place : (q : ℕ) → Contains made q → Contains es q ⊎ (h.next_edge ≤ q)
  made_place q d =
      let l : d.0 < length made = d.1 in
      let f : length made ≡ length (kept_edges r) = length-images es (kept_edges r) h.next_edge in
      let o = element (kept_edges r) d.0 (omega arith) in
      by o.0 o.1
    where
      by : (o : Option ℕ) → slice_get (kept_edges r) d.0 ≡ Some o → Contains es q ⊎ (h.next_edge ≤ q)
      by (Some i) e = inl (stands_in es i q (keeps.within d.0 i e) (sym (image_old es (kept_edges r) h.next_edge d.0 i e) ∙ standing made q d))
      by None e =
          let f = image_new es (kept_edges r) h.next_edge d.0 e in
          let g = standing made q d in
          inr (omega arith)

  -- ---- numbers of edges that the match has, and of others

  -- an edge that is matched today was matched
  was_matched : (e q : ℕ) → today t e ≡ Some q → Contains es q → Contains m.edges e
  was_matched e q i d =
      let l : d.0 < length m.edges = subst (λ z. d.0 < z) (sym as_many) d.1 in
      let f : today t (slice_index m.edges d.0) ≡ Some q = all_today_at t m.edges es d.0 all l ∙ ap (λ z. Some z) (standing es q d) in
      stands_in m.edges d.0 e l (table.apart (slice_index m.edges d.0) e q f i)

  -- one that was not matched is at no number that is made, and stays as it is
  not_made : (e q : ℕ) → today t e ≡ Some q → (Contains m.edges e → ⊥) → Contains made q → ⊥
  not_made e q i d z =
      elim (made_place q z) [
        | inl y ↦ d (was_matched e q i y)
        | inr l ↦ (let y : q < h.next_edge = w.edges_below q (table.there e q i) in omega arith)
      ]

  unchanged : (e q : ℕ) → today t e ≡ Some q → (Contains m.edges e → ⊥) → edge_at k q ≡ edge_at h q
  unchanged e q i d = other_at q (not_made e q i d) (λ y. d (was_matched e q i y))

  -- an edge that was matched is today
  today_matched : (e : ℕ) (d : Contains m.edges e) → today t e ≡ Some (slice_index es d.0)
  today_matched e d = subst (λ z. today t z ≡ Some (slice_index es d.0)) (standing m.edges e d) (all_today_at t m.edges es d.0 all d.1)

  now_matched : (e q : ℕ) → today t e ≡ Some q → Contains m.edges e → Contains es q
  now_matched e q i d =
      let l : d.0 < length es = subst (λ z. d.0 < z) as_many d.1 in
      let f : today t e ≡ Some (slice_index es d.0) = today_matched e d in
      stands_in es d.0 q l (some_same (sym f ∙ i))

  matched_below : (e : ℕ) → Contains m.edges e → e < length t
  matched_below e d = today_within t e (slice_index es d.0) (today_matched e d)

  -- ---- the table

  made_there : (i : ℕ) → i < length made → IsSome (edge_at k (slice_index made i))
  made_there i l =
      let f = count in
      let q = element r.right_edges i (omega arith) in
      let d = right_at i q.0 q.1 in
      is_some_of (edge_at k (slice_index made i)) d.0 d.1

  there_after : (e q : ℕ) → today after e ≡ Some q → IsSome (edge_at k q)
  there_after e q i =
      elim (moved_cases t m.edges made e q i) [
        | inl p ↦ subst IsSome (sym (unchanged e q p.0 p.1)) (table.there e q p.0)
        | inr p ↦ subst (λ z. IsSome (edge_at k z)) p.3 (made_there p.0 p.1)
      ]

  apart_after : (e f q : ℕ) → today after e ≡ Some q → today after f ≡ Some q → e ≡ f
  apart_after e f q i j =
      elim (moved_cases t m.edges made e q i) [
        | inl p ↦ elim (moved_cases t m.edges made f q j) [
          | inl o ↦ table.apart e f q p.0 o.0
          | inr o ↦ absurd (not_made e q p.0 p.1 (stands_in made o.0 q o.1 o.3))
        ]
        | inr p ↦ elim (moved_cases t m.edges made f q j) [
          | inl o ↦ absurd (not_made f q o.0 o.1 (stands_in made p.0 q p.1 p.3))
          | inr o ↦ (let z : p.0 ≡ o.0 = same_place made made_apart p.0 o.0 p.1 o.1 (p.3 ∙ sym o.3) in p.2 ∙ ap (λ x. length t + x) z ∙ sym o.2)
        ]
      ]

  all_after : (q : ℕ) → IsSome (edge_at k q) → (e : ℕ) × (today after e ≡ Some q)
  all_after q i =
      let d = some_of (edge_at k q) i in
      elim (contained made q) [
        | inl x ↦ (length t + x.0, moved_made t m.edges made x.0 (length t + x.0) refl x.1 ∙ ap (λ z. Some z) (standing made q x))
        | inr out ↦ elim (contained es q) [
          | inl x ↦ absurd (none-some d.0 (sym (gone_at q out x) ∙ d.1))
          | inr none ↦
              (let e = table.all q (subst IsSome (other_at q out none) i) in
              let l = today_within t e.0 q e.1 in
              (e.0, moved_old t m.edges made e.0 l (λ x. none (now_matched e.0 q e.1 x)) ∙ e.1))
        ]
      ]

  -- ---- the graph as it was

  found_was : (j : ℕ) (q : RightEdge) (o : Option ℕ) → slice_get r.right_edges j ≡ Some q → q.origin ≡ o → found_edge (as_it_was t h) m o ≡ found_edge h n o
  found_was j q None e i = refl
  found_was j q (Some p) e i =
      let f : length es ≡ length r.left_edges = b.edge_count in
      let g = as_many in
      let l : p < length r.left_edges = c.edge_origins j p q e i in
      edge_then t h (slice_index m.edges p) (slice_index es p) (all_today_at t m.edges es p all (omega arith))

  gone_was : (e : ℕ) → Contains m.edges e → edge_at (as_it_was after k) e ≡ None
  gone_was e d = edge_was after k e ∙ ap (option_and_then (edge_at k)) (moved_taken t m.edges made e (matched_below e d) d)

  -- an edge that is neither matched nor made
  old_was : (e : ℕ) (o : Option ℕ) → e < length t → (Contains m.edges e → ⊥) → today t e ≡ o → edge_at (as_it_was after k) e ≡ edge_at (as_it_was t h) e
  old_was e None l d i =
      let f : today after e ≡ None = moved_old t m.edges made e l d ∙ i in
      edge_was after k e ∙ ap (option_and_then (edge_at k)) f ∙ sym (edge_was t h e ∙ ap (option_and_then (edge_at h)) i)
  old_was e (Some q) l d i =
      let f : today after e ≡ Some q = moved_old t m.edges made e l d ∙ i in
      edge_then after k e q f ∙ unchanged e q i d ∙ sym (edge_then t h e q i)

  past_was : (e : ℕ) → length t + length made ≤ e → edge_at (as_it_was after k) e ≡ edge_at (as_it_was t h) e
  past_was e l =
      edge_was after k e ∙ ap (option_and_then (edge_at k)) (moved_past t m.edges made e l)
      ∙ sym (edge_was t h e ∙ ap (option_and_then (edge_at h)) (today_past t e (omega arith)))

  other_was : (e : ℕ) → ((j : ℕ) → j < length r.right_edges → e ≡ length t + j → ⊥) → (Contains m.edges e → ⊥) → edge_at (as_it_was after k) e ≡ edge_at (as_it_was t h) e
  other_was e out d =
      let f = count in
      elim (cases_lt e (length t)) [
        | inl l ↦ old_was e (today t e) l d refl
        | inr l ↦ elim (cases_lt (e - length t) (length made)) [
          | inl z ↦ absurd (out (e - length t) (omega arith) (omega arith))
          | inr z ↦ past_was e (omega arith)
        ]
      ]

  table_of_step : IsTable after k
  table_of_step = record { there = there_after; apart = apart_after; all = all_after }

  step_of_step : ((e : Expression ℕ) → value_of e (setting_of r (as_it_was t h) m a) ≡ value_of e (setting_of r h n a)) → StepAnewBy r (as_it_was t h) m a (as_it_was after k)
  step_of_step v =
      record {
        images = s.images;
        places = s.places;
        next_node = s.next_node;
        next_edge = length-moved t m.edges made ∙ ap (λ z. length t + z) count;
        right_nodes = λ j q e.
            let x = s.right_nodes j q e in
            (x.0, x.1, record { label = v q.label ∙ x.2.label; mark = x.2.mark; root = x.2.root });
        right_edges = λ j q e.
            let l : j < length r.right_edges = slice_get_within r.right_edges j q e in
            let i = subst (λ z. j < z) (sym count) l in
            let d = right_at j q e in (
              d.0,
              edge_then after k (length t + j) (slice_index made j) (moved_made t m.edges made j (length t + j) refl i) ∙ d.1,
              record {
                source = d.2.source;
                target = d.2.target;
                label = v q.label ∙ d.2.label;
                mark = d.2.mark ∙ ap (λ (o : Option Edge). made_mark q.mark (option_map (λ (y : Edge). y.mark) o) edge_marks.None) (sym (found_was j q q.origin e refl));
              },
            );
        deleted_nodes = s.deleted_nodes;
        other_nodes = s.other_nodes;
        deleted_edges = gone_was;
        other_edges = other_was;
      }

-- ---- the match, by today's numbers

pub step_was : (r : Rule) (t : List (Option ℕ)) (h k : Graph) (m n : Found) (a : Assignment) → IsWellFormed r → IsNumbered h → IsTable t h → found_today t m ≡ Some n
    → ((e : Expression ℕ) → value_of e (setting_of r (as_it_was t h) m a) ≡ value_of e (setting_of r h n a)) → MatchBy r h n a → StepBy r h n a k
    → StepAnewBy r (as_it_was t h) m a (as_it_was (moved t m.edges (images_from n.edges (kept_edges r) h.next_edge)) k)
step_was r t h k m n a c w table found =
    let p = mapped (λ (es : List ℕ). record m { edges = es }) (all_today t m.edges) n found in
    subst
    (λ (z : Found). ((e : Expression ℕ) → value_of e (setting_of r (as_it_was t h) m a) ≡ value_of e (setting_of r h z a)) → MatchBy r h z a → StepBy r h z a k
    → StepAnewBy r (as_it_was t h) m a (as_it_was (moved t m.edges (images_from z.edges (kept_edges r) h.next_edge)) k))
    p.2 (λ v b s. step_of_step r t h k m p.0 a c w table p.1 b s v)

pub table_moved : (r : Rule) (t : List (Option ℕ)) (h k : Graph) (m n : Found) (a : Assignment) → IsWellFormed r → IsNumbered h → IsTable t h → found_today t m ≡ Some n
    → ((e : Expression ℕ) → value_of e (setting_of r (as_it_was t h) m a) ≡ value_of e (setting_of r h n a)) → MatchBy r h n a → StepBy r h n a k
    → IsTable (moved t m.edges (images_from n.edges (kept_edges r) h.next_edge)) k
table_moved r t h k m n a c w table found _ =
    let p = mapped (λ (es : List ℕ). record m { edges = es }) (all_today t m.edges) n found in
    subst (λ (z : Found). MatchBy r h z a → StepBy r h z a k → IsTable (moved t m.edges (images_from z.edges (kept_edges r) h.next_edge)) k) p.2 (table_of_step r t h k m p.0 a c w table p.1)
