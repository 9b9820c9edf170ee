-- The bodies of the index of pairs.
use Rattle.std.proofs.Common.{inl, inr, ◌≡◌, ◌≢◌, ℕ, zero, suc, ◌+◌, ◌-◌, ◌<◌, ◌≤◌, ◌==◌, true, false, List, [], ◌∷◌, length, take, set, get_or, refl, sym, ap, ap₂, subst, ◌∙◌, arith, length-set}
use Rattle.std.specs.Prelude.{◌⊎◌, ◌↔◌, Contains, Option, Some, None, IsSome, IsSomeAnd, IfSome, is_some, Result, Ok, Err, OnOk}
use Rattle.std.specs.Result.{is_err}
use Rattle.std.specs.Option.{option_map}
use Rattle.std.proofs.lemmas.Bool.{cases_eq, eqb-true, eq-eqb}
use Rattle.std.proofs.lemmas.List.{get_or-set_same, get_or-set_other}
use Rattle.gp_memory.proofs.Basics.{and_both as both_to, both as both_of, first_or_later, get_any}
use Rattle.gp_values.specs.Graph.{Edge}
use Rattle.gp_graph.specs.Walks.{Walks, GoesBetween}
use Rattle.gp_graph.specs.Chains.{Joins, AreRings, follow}
use Rattle.gp_graph.specs.inside.Slots.{slot_in}
use Rattle.gp_graph.specs.inside.View.{edge_of, graph_from}
use Rattle.gp_graph.specs.inside.Rings.{end_of, Meets, ShowSame}
use Rattle.gp_graph.specs.inside.Pairs.{bucket_of, ring_at, pair_at, first_in, count_in, next_pair, prev_pair, has_ends, pair_in, FallsIn, HasEnds, SameEnds, Indexes, IndexesBut, AllEmpty}
use Rattle.gp_graph.specs.inside.Sought.{those}
use Rattle.gp_graph.specs.declared.slots.Link.{Link}
use Rattle.gp_graph.specs.declared.slots.Ring.{Ring}
use Rattle.gp_graph.specs.declared.slots.NodeSlot.{NodeSlot}
use Rattle.gp_graph.specs.declared.slots.EdgeSlot.{EdgeSlot}
use Rattle.gp_graph.specs.declared.pairs.Pair.{Pair}
use Rattle.gp_graph.specs.declared.rings.Side.TheVariants.{Beginning, Ending}
use Rattle.gp_graph.proofs.SlotMaps.{seen_at}
use Rattle.gp_graph.proofs.Numbers.{apart_more, few}
use Rattle.gp_graph.proofs.Rounds.{next_round, prev_round, length-follow}
use Rattle.gp_graph.proofs.RingSets.{rings_agree, rings_by, rings_push, rings_remove, rings_turn, last_there, first_there}
use Rattle.gp_graph.proofs.Links.{slot_within}
use Rattle.gp_graph.proofs.Those.{Walks-those}

-- ---- the pair of an edge

one-at : (count : ℕ) (o : Option (ℕ × ℕ)) (a b : ℕ) → IsSomeAnd o (λ p. bucket_of count p.0 p.1 ≡ a) → IsSomeAnd o (λ p. bucket_of count p.0 p.1 ≡ b) → a ≡ b
one-at count None a b h i = absurd h
one-at count (Some p) a b h i = sym h ∙ i

-- an edge falls in one bucket
one_bucket : (count : ℕ) (es : List (Option EdgeSlot)) (a b e : ℕ) → FallsIn count es a e → FallsIn count es b e → a ≡ b
one_bucket count es a b e h i = one-at count (pair_in (slot_in es e)) a b h i

there-at : (count : ℕ) (o : Option EdgeSlot) (b : ℕ) → IsSomeAnd (pair_in o) (λ p. bucket_of count p.0 p.1 ≡ b) → IsSome o
there-at count None b h = absurd h
there-at count (Some s) b h = refl

falls_there : (count : ℕ) (es : List (Option EdgeSlot)) (b e : ℕ) → FallsIn count es b e → IsSome (slot_in es e)
falls_there count es b e h = there-at count (slot_in es e) b h

falls-at : (count : ℕ) (o : Option EdgeSlot) (s t : ℕ) → IsSomeAnd (option_map edge_of o) (λ d. end_of Beginning d ≡ s) → IsSomeAnd (option_map edge_of o) (λ d. end_of Ending d ≡ t) → IsSomeAnd (pair_in o) (λ p. bucket_of count p.0 p.1 ≡ bucket_of count s t)
falls-at count None s t h i = absurd h
falls-at count (Some x) s t h i = ap₂ (bucket_of count) h i

pub falls : (count : ℕ) (es : List (Option EdgeSlot)) (e s t : ℕ) → Meets Beginning es s e → Meets Ending es t e → FallsIn count es (bucket_of count s t) e
falls count es e s t h i = falls-at count (slot_in es e) s t h i

ends_here : (p : Pair) (o : Option EdgeSlot) (s t : ℕ) → p.source ≡ s → p.target ≡ t → IsSomeAnd (option_map edge_of o) (λ d. end_of Beginning d ≡ s) → IsSomeAnd (option_map edge_of o) (λ d. end_of Ending d ≡ t) → HasEnds p o
ends_here p None s t a b h i = tt
ends_here p (Some x) s t a b h i = (a ∙ sym h, b ∙ sym i)

ends_moved : (p p' : Pair) (o : Option EdgeSlot) → (p'.source ≡ p.source) × (p'.target ≡ p.target) → HasEnds p o → HasEnds p' o
ends_moved p p' None same h = tt
ends_moved p p' (Some x) same h = (same.0 ∙ h.0, same.1 ∙ h.1)

-- ---- one bucket is written

ring_here : (bs : List Ring) (p : ℕ) (q : Ring) → p < length bs → ring_at (set bs p q) p ≡ q
ring_here bs p q l = get_or-set_same bs p q _ l

ring_else : (bs : List Ring) (p : ℕ) (q : Ring) (k : ℕ) → k ≢ p → ring_at (set bs p q) k ≡ ring_at bs k
ring_else bs p q k ne = get_or-set_other bs p k q _ ne

pub ring_is : (bs : List Ring) (p : ℕ) (r d : Ring) → p < length bs → r ≡ get_or bs p d → r ≡ ring_at bs p
ring_is bs p r d l is = is ∙ get_any bs p d _ l

-- there is a bucket
pub some_buckets : (n : ℕ) → (n == 0) ≡ false → 0 < n
some_buckets zero h = absurd cc
some_buckets (suc n) h = omega arith

-- ---- entering

abbrev pub Others : List Ring → List Pair → List (Option EdgeSlot) → ℕ → Type 0
Others bs ps es x = AreRings (first_in bs) (count_in bs) (next_pair ps) (prev_pair ps) (λ b e. FallsIn (length bs) es b e × (e ≡ x → ⊥))

abbrev pub All : List Ring → List Pair → List (Option EdgeSlot) → Type 0
All bs ps es = AreRings (first_in bs) (count_in bs) (next_pair ps) (prev_pair ps) (FallsIn (length bs) es)

-- the ends of an edge that stands in no ring are noted
pub noted : (bs : List Ring) (ps ps' : List Pair) (es : List (Option EdgeSlot)) (x : ℕ) → ((k : ℕ) → (pair_at ps' k).link ≡ (pair_at ps k).link) → Others bs ps es x → Others bs ps' es x
noted bs ps ps' es x same r =
    rings_agree (first_in bs) (count_in bs) (next_pair ps) (prev_pair ps) (first_in bs) (count_in bs) (next_pair ps') (prev_pair ps') (λ b e. FallsIn (length bs) es b e × (e ≡ x → ⊥)) (λ b e. FallsIn (length bs) es b e × (e ≡ x → ⊥)) r
    (λ n. refl) (λ n. refl) (λ n k h. ap (λ (l : Link). l.next) (same k)) (λ n k h. ap (λ (l : Link). l.prev) (same k)) (λ n k. (λ h. h, λ h. h))

pub last_within : (bs : List Ring) (ps : List Pair) (es : List (Option EdgeSlot)) (e b l : ℕ) (r : Ring) → IsSome (slot_in es e) → Others bs ps es e → r ≡ ring_at bs b
    → (r.count ≡ 0 → l ≡ e) → (r.count ≢ 0 → l ≡ prev_pair ps r.first) → l < length es
last_within bs ps es e b l r there o is none some =
    elim (cases_eq r.count 0) [
      | inl z ↦ subst (λ k. k < length es) (sym (none z)) (slot_within es e there)
      | inr nz ↦
          let nz' : count_in bs b ≢ 0 = subst (λ (q : Ring). q.count ≢ 0) is nz in
          let p = prev_pair ps (first_in bs b) in
          subst (λ k. k < length es) (sym (some nz ∙ ap (λ (q : Ring). prev_pair ps q.first) is))
          (slot_within es p (falls_there (length bs) es b p (((o.walks b).each p).0 (last_there (next_pair ps) (prev_pair ps) (count_in bs b) (first_in bs b) nz' (o.rounds b))).0))
    ]

pub first_within : (bs : List Ring) (ps : List Pair) (es : List (Option EdgeSlot)) (e b f : ℕ) (r : Ring) → IsSome (slot_in es e) → Others bs ps es e → r ≡ ring_at bs b
    → (r.count ≡ 0 → f ≡ e) → (r.count ≢ 0 → f ≡ r.first) → f < length es
first_within bs ps es e b f r there o is none some =
    elim (cases_eq r.count 0) [
      | inl z ↦ subst (λ k. k < length es) (sym (none z)) (slot_within es e there)
      | inr nz ↦
          let nz' : count_in bs b ≢ 0 = subst (λ (q : Ring). q.count ≢ 0) is nz in
          let p = first_in bs b in
          subst (λ k. k < length es) (sym (some nz ∙ ap (λ (q : Ring). q.first) is))
          (slot_within es p (falls_there (length bs) es b p (((o.walks b).each p).0 (first_there (next_pair ps) (count_in bs b) (first_in bs b) nz')).0))
    ]

pub may_enter : (bs : List Ring) (ps : List Pair) (es : List (Option EdgeSlot)) (e b : ℕ) (r : Ring) → IsSome (slot_in es e) → Others bs ps es e → r ≡ ring_at bs b → r.count + 1 ≤ length es
may_enter bs ps es e b r there o is =
    let xs = follow (next_pair ps) (count_in bs b) (first_in bs b) in
    let same : length xs ≡ count_in bs b = length-follow (next_pair ps) (count_in bs b) (first_in bs b) in
    let c : r.count ≡ count_in bs b = ap (λ (q : Ring). q.count) is in
    let long : length (e ∷ xs) ≤ length es = few (e ∷ xs) (length es) (apart_more e xs (λ h. (((o.walks b).each e).0 h).1 refl) (o.walks b).once)
    (λ k h. elim (first_or_later e xs k h) [
      | inl is ↦ subst (λ i. i < length es) is (slot_within es e there)
      | inr in_ ↦ slot_within es k (falls_there (length bs) es b k (((o.walks b).each k).0 in_).0)
    ]) in
    omega arith

pub entered : (bs : List Ring) (ps ps1 ps2 : List Pair) (es : List (Option EdgeSlot)) (e b f l : ℕ) (r : Ring) → b < length bs → FallsIn (length bs) es b e → Others bs ps es e → r ≡ ring_at bs b
    → (r.count ≡ 0 → (f ≡ e) × (l ≡ e)) → (r.count ≢ 0 → (f ≡ r.first) × (l ≡ prev_pair ps r.first))
    → Joins (next_pair ps) (prev_pair ps) (next_pair ps1) (prev_pair ps1) l e → Joins (next_pair ps1) (prev_pair ps1) (next_pair ps2) (prev_pair ps2) e f
    → All (set bs b (record { first = f; count = r.count + 1 })) ps2 es
entered bs ps ps1 ps2 es e b f l r within edge rings is none some j k =
    let q : Ring = record { first = f; count = r.count + 1 } in
    let bs' = set bs b q in
    let n = length bs in
    let at : ring_at bs' b ≡ q = ring_here bs b q within in
    let first : first_in bs' b ≡ f = ap (λ (x : Ring). x.first) at in
    let none' : count_in bs b ≡ 0 → (f ≡ e) × (l ≡ e) = subst (λ (x : Ring). x.count ≡ 0 → (f ≡ e) × (l ≡ e)) is none in
    let some' : count_in bs b ≢ 0 → (f ≡ first_in bs b) × (l ≡ prev_pair ps (first_in bs b)) = subst (λ (x : Ring). x.count ≢ 0 → (f ≡ x.first) × (l ≡ prev_pair ps x.first)) is some in
    subst (λ m. AreRings (first_in bs') (count_in bs') (next_pair ps2) (prev_pair ps2) (FallsIn m es)) (sym (length-set bs b q))
    (rings_push (first_in bs) (count_in bs) (next_pair ps) (prev_pair ps) (first_in bs') (count_in bs') (next_pair ps1) (prev_pair ps1) (next_pair ps2) (prev_pair ps2)
    (λ i m. FallsIn n es i m × (m ≡ e → ⊥)) (FallsIn n es) b e l rings
    (λ i j m h g. one_bucket n es i j m h.0 g.0)
    (λ i h. h.1 refl)
    (λ i m. (
      λ h. elim (cases_eq m e) [
        | inl me ↦ inr (one_bucket n es i b e (subst (FallsIn n es i) me h) edge, me)
        | inr ne ↦ inl (h, ne)
      ],
      λ h. elim h [
        | inl old ↦ old.0
        | inr now ↦ subst (λ a. FallsIn n es a m) (sym now.0) (subst (FallsIn n es b) (sym now.1) edge)
      ],
    ))
    (λ z. (first ∙ (none' z).0, (none' z).1))
    (λ nz. (first ∙ (some' nz).0, (some' nz).1))
    (ap (λ (x : Ring). x.count) at ∙ ap (λ (x : Ring). x.count + 1) is)
    (λ i ne. ap (λ (x : Ring). x.first) (ring_else bs b q i ne))
    (λ i ne. ap (λ (x : Ring). x.count) (ring_else bs b q i ne))
    j
    (subst (Joins (next_pair ps1) (prev_pair ps1) (next_pair ps2) (prev_pair ps2) e) (sym first) k))

-- the ends are those of all edges again
pub ends_entered : (ps ps0 ps1 ps2 : List Pair) (es : List (Option EdgeSlot)) (e s t : ℕ) → Meets Beginning es s e → Meets Ending es t e → ((k : ℕ) → k ≢ e → HasEnds (pair_at ps k) (slot_in es k))
    → ((pair_at ps0 e).source ≡ s) × ((pair_at ps0 e).target ≡ t) → ((k : ℕ) → k ≢ e → pair_at ps0 k ≡ pair_at ps k) → SameEnds ps0 ps1 → SameEnds ps1 ps2 → (k : ℕ) → HasEnds (pair_at ps2 k) (slot_in es k)
ends_entered ps ps0 ps1 ps2 es e s t m n old here_ other s1 s2 k =
    ends_moved (pair_at ps1 k) (pair_at ps2 k) (slot_in es k) (s2 k)
    (ends_moved (pair_at ps0 k) (pair_at ps1 k) (slot_in es k) (s1 k)
    (elim (cases_eq k e) [
      | inl is ↦ subst (λ i. HasEnds (pair_at ps0 i) (slot_in es i)) (sym is) (ends_here (pair_at ps0 e) (slot_in es e) s t here_.0 here_.1 m n)
      | inr ne ↦ subst (λ p. HasEnds p (slot_in es k)) (sym (other k ne)) (old k ne)
    ]))

-- ---- turning and leaving

in_bucket : (bs : List Ring) (ps : List Pair) (es : List (Option EdgeSlot)) (b e : ℕ) → FallsIn (length bs) es b e → All bs ps es → Contains (follow (next_pair ps) (count_in bs b) (first_in bs b)) e
in_bucket bs ps es b e h r = ((r.walks b).each e).1 h

pub next_falls : (bs : List Ring) (ps : List Pair) (es : List (Option EdgeSlot)) (b e : ℕ) → FallsIn (length bs) es b e → All bs ps es → FallsIn (length bs) es b (next_pair ps e)
next_falls bs ps es b e h r = ((r.walks b).each (next_pair ps e)).0 (next_round (next_pair ps) (prev_pair ps) (follow (next_pair ps) (count_in bs b) (first_in bs b)) e (in_bucket bs ps es b e h r) (r.rounds b))

pub prev_falls : (bs : List Ring) (ps : List Pair) (es : List (Option EdgeSlot)) (b e : ℕ) → FallsIn (length bs) es b e → All bs ps es → FallsIn (length bs) es b (prev_pair ps e)
prev_falls bs ps es b e h r = ((r.walks b).each (prev_pair ps e)).0 (prev_round (next_pair ps) (prev_pair ps) (follow (next_pair ps) (count_in bs b) (first_in bs b)) e (in_bucket bs ps es b e h r) (r.rounds b))

pub falls_within : (count : ℕ) (es : List (Option EdgeSlot)) (b e : ℕ) → FallsIn count es b e → e < length es
falls_within count es b e h = slot_within es e (falls_there count es b e h)

pub may_leave : (bs : List Ring) (ps : List Pair) (es : List (Option EdgeSlot)) (b e : ℕ) → FallsIn (length bs) es b e → All bs ps es → 1 ≤ count_in bs b
may_leave bs ps es b e h r =
    let i = in_bucket bs ps es b e h r in
    let l : i.0 < length (follow (next_pair ps) (count_in bs b) (first_in bs b)) = i.1 in
    let same = length-follow (next_pair ps) (count_in bs b) (first_in bs b) in
    omega (arith, same)

turned_but : (bs : List Ring) (ps : List Pair) (es : List (Option EdgeSlot)) (b e f : ℕ) → b < length bs → FallsIn (length bs) es b f → All bs ps es
    → AreRings (first_in (set bs b (record { first = f; count = count_in bs b }))) (count_in (set bs b (record { first = f; count = count_in bs b }))) (next_pair ps) (prev_pair ps) (FallsIn (length bs) es)
turned_but bs ps es b e f within h r =
    let q : Ring = record { first = f; count = count_in bs b } in
    let bs' = set bs b q in
    let at : ring_at bs' b ≡ q = ring_here bs b q within in
    rings_turn (first_in bs) (count_in bs) (next_pair ps) (prev_pair ps) (first_in bs') (count_in bs') (FallsIn (length bs) es) b f r h
    (ap (λ (x : Ring). x.first) at)
    (ap (λ (x : Ring). x.count) at)
    (λ i ne. ap (λ (x : Ring). x.first) (ring_else bs b q i ne))
    (λ i ne. ap (λ (x : Ring). x.count) (ring_else bs b q i ne))

-- a ring begins at an edge of its bucket
pub turned : (bs : List Ring) (ps : List Pair) (es : List (Option EdgeSlot)) (b f : ℕ) → b < length bs → FallsIn (length bs) es b f → All bs ps es → All (set bs b (record { first = f; count = count_in bs b })) ps es
turned bs ps es b f within h r =
    let q : Ring = record { first = f; count = count_in bs b } in
    subst (λ m. AreRings (first_in (set bs b q)) (count_in (set bs b q)) (next_pair ps) (prev_pair ps) (FallsIn m es)) (sym (length-set bs b q)) (turned_but bs ps es b f f within h r)

pub left : (bs : List Ring) (ps ps' : List Pair) (es : List (Option EdgeSlot)) (b e : ℕ) → b < length bs → FallsIn (length bs) es b e → All bs ps es
    → Joins (next_pair ps) (prev_pair ps) (next_pair ps') (prev_pair ps') (prev_pair ps e) (next_pair ps e)
    → Others (set bs b (record { first = next_pair ps e; count = count_in bs b - 1 })) ps' es e
left bs ps ps' es b e within h r j =
    let n = length bs in
    let p : Ring = record { first = e; count = count_in bs b } in
    let q : Ring = record { first = next_pair ps e; count = count_in bs b - 1 } in
    let mid = set bs b p in
    let bs' = set bs b q in
    let begins : ring_at mid b ≡ p = ring_here bs b p within in
    let at : ring_at bs' b ≡ q = ring_here bs b q within in
    let apart : (i : ℕ) → i ≢ b → ring_at bs' i ≡ ring_at mid i = λ i ne. ring_else bs b q i ne ∙ sym (ring_else bs b p i ne) in
    subst (λ m. AreRings (first_in bs') (count_in bs') (next_pair ps') (prev_pair ps') (λ i m'. FallsIn m es i m' × (m' ≡ e → ⊥))) (sym (length-set bs b q))
    (rings_remove (first_in mid) (count_in mid) (next_pair ps) (prev_pair ps) (first_in bs') (count_in bs') (next_pair ps') (prev_pair ps')
    (FallsIn n es) (λ i m. FallsIn n es i m × (m ≡ e → ⊥)) b e (turned_but bs ps es b e e within h r)
    (one_bucket n es)
    h
    (λ i m. (λ g. g, λ g. g))
    (λ g. ap (λ (x : Ring). x.first) at)
    (λ g. absurd (g (ap (λ (x : Ring). x.first) begins)))
    (ap (λ (x : Ring). x.count) at ∙ sym (ap (λ (x : Ring). x.count - 1) begins))
    (λ i ne. ap (λ (x : Ring). x.first) (apart i ne))
    (λ i ne. ap (λ (x : Ring). x.count) (apart i ne))
    j)

pub ends_kept : (ps ps' : List Pair) (es : List (Option EdgeSlot)) → SameEnds ps ps' → ((k : ℕ) → HasEnds (pair_at ps k) (slot_in es k)) → (k : ℕ) → HasEnds (pair_at ps' k) (slot_in es k)
ends_kept ps ps' es same h k = ends_moved (pair_at ps k) (pair_at ps' k) (slot_in es k) (same k) (h k)

-- ---- other edges

seen_pair : (o : Option EdgeSlot) → pair_in o ≡ option_map (λ (d : Edge). (d.source, d.target)) (option_map edge_of o)
seen_pair None = refl
seen_pair (Some s) = refl

pub same_pairs : (es es' : List (Option EdgeSlot)) → ShowSame edge_of es es' → (k : ℕ) → pair_in (slot_in es' k) ≡ pair_in (slot_in es k)
same_pairs es es' same k = seen_pair (slot_in es' k) ∙ ap (option_map (λ (d : Edge). (d.source, d.target))) (same k) ∙ sym (seen_pair (slot_in es k))

falls_moved : (count : ℕ) (o o' : Option EdgeSlot) (b : ℕ) → pair_in o' ≡ pair_in o → IsSomeAnd (pair_in o) (λ p. bucket_of count p.0 p.1 ≡ b) → IsSomeAnd (pair_in o') (λ p. bucket_of count p.0 p.1 ≡ b)
falls_moved count o o' b same h = subst (λ x. IsSomeAnd x (λ p. bucket_of count p.0 p.1 ≡ b)) (sym same) h

ends_same : (p : Pair) (o o' : Option EdgeSlot) → pair_in o' ≡ pair_in o → HasEnds p o → HasEnds p o'
ends_same p o o' same h = subst (λ x. IfSome x (λ q. (p.source ≡ q.0) × (p.target ≡ q.1))) (sym same) h

no_fall : (count : ℕ) (es : List (Option EdgeSlot)) (b x : ℕ) → slot_in es x ≡ None → FallsIn count es b x → ⊥
no_fall count es b x none h = subst (λ o. IsSomeAnd (pair_in o) (λ p. bucket_of count p.0 p.1 ≡ b)) none h

no_ends : (p : Pair) (o : Option EdgeSlot) → o ≡ None → HasEnds p o
no_ends p o none = subst (HasEnds p) (sym none) tt

-- the same pairs are seen
pub index_same : (bs : List Ring) (ps : List Pair) (es es' : List (Option EdgeSlot)) → ((k : ℕ) → pair_in (slot_in es' k) ≡ pair_in (slot_in es k)) → Indexes bs ps es → Indexes bs ps es'
index_same bs ps es es' same i =
    let n = length bs in
    record {
      rings = rings_agree (first_in bs) (count_in bs) (next_pair ps) (prev_pair ps) (first_in bs) (count_in bs) (next_pair ps) (prev_pair ps) (FallsIn n es) (FallsIn n es') i.rings
          (λ b. refl) (λ b. refl) (λ b k h. refl) (λ b k h. refl)
          (λ b k. (falls_moved n (slot_in es k) (slot_in es' k) b (same k), falls_moved n (slot_in es' k) (slot_in es k) b (sym (same k))));
      ends = λ k. ends_same (pair_at ps k) (slot_in es k) (slot_in es' k) (same k) (i.ends k);
    }

pub index_room : (bs : List Ring) (ps ps' : List Pair) (es : List (Option EdgeSlot)) → ((k : ℕ) → pair_at ps' k ≡ pair_at ps k) → Indexes bs ps es → Indexes bs ps' es
index_room bs ps ps' es same i = record {
  rings = rings_agree (first_in bs) (count_in bs) (next_pair ps) (prev_pair ps) (first_in bs) (count_in bs) (next_pair ps') (prev_pair ps') (FallsIn (length bs) es) (FallsIn (length bs) es) i.rings
      (λ n. refl) (λ n. refl) (λ n k h. ap (λ (p : Pair). p.link.next) (same k)) (λ n k h. ap (λ (p : Pair). p.link.prev) (same k)) (λ n k. (λ h. h, λ h. h));
  ends = λ k. subst (λ p. HasEnds p (slot_in es k)) (sym (same k)) (i.ends k);
}

pub index_room_but : (bs : List Ring) (ps ps' : List Pair) (es : List (Option EdgeSlot)) (x : ℕ) → ((k : ℕ) → pair_at ps' k ≡ pair_at ps k) → IndexesBut bs ps es x → IndexesBut bs ps' es x
index_room_but bs ps ps' es x same i = record {
  rings = noted bs ps ps' es x (λ k. ap (λ (p : Pair). p.link) (same k)) i.rings;
  ends = λ k ne. subst (λ p. HasEnds p (slot_in es k)) (sym (same k)) (i.ends k ne);
}

-- an edge is new at a place that was free
pub index_taken : (bs : List Ring) (ps : List Pair) (es es' : List (Option EdgeSlot)) (x : ℕ) → ((k : ℕ) → k ≢ x → pair_in (slot_in es' k) ≡ pair_in (slot_in es k)) → slot_in es x ≡ None → Indexes bs ps es → IndexesBut bs ps es' x
index_taken bs ps es es' x off none i =
    let n = length bs in
    let apart : (b k : ℕ) → FallsIn n es b k → k ≢ x = λ b k h e. no_fall n es b x none (subst (FallsIn n es b) e h) in
    record {
      rings = rings_agree (first_in bs) (count_in bs) (next_pair ps) (prev_pair ps) (first_in bs) (count_in bs) (next_pair ps) (prev_pair ps) (FallsIn n es) (λ b k. FallsIn n es' b k × (k ≡ x → ⊥)) i.rings
          (λ b. refl) (λ b. refl) (λ b k h. refl) (λ b k h. refl)
          (λ b k. (
            λ h. (falls_moved n (slot_in es k) (slot_in es' k) b (off k (apart b k h)) h, apart b k h),
            λ h. falls_moved n (slot_in es' k) (slot_in es k) b (sym (off k h.1)) h.0,
          ));
      ends = λ k ne. ends_same (pair_at ps k) (slot_in es k) (slot_in es' k) (off k ne) (i.ends k);
    }

-- an edge goes that no bucket holds
pub index_freed : (bs : List Ring) (ps : List Pair) (es es' : List (Option EdgeSlot)) (x : ℕ) → ((k : ℕ) → k ≢ x → pair_in (slot_in es' k) ≡ pair_in (slot_in es k)) → slot_in es' x ≡ None → IndexesBut bs ps es x → Indexes bs ps es'
index_freed bs ps es es' x off none i =
    let n = length bs in
    let apart : (b k : ℕ) → FallsIn n es' b k → k ≢ x = λ b k h e. no_fall n es' b x none (subst (FallsIn n es' b) e h) in
    record {
      rings = rings_agree (first_in bs) (count_in bs) (next_pair ps) (prev_pair ps) (first_in bs) (count_in bs) (next_pair ps) (prev_pair ps) (λ b k. FallsIn n es b k × (k ≡ x → ⊥)) (FallsIn n es') i.rings
          (λ b. refl) (λ b. refl) (λ b k h. refl) (λ b k h. refl)
          (λ b k. (
            λ h. falls_moved n (slot_in es k) (slot_in es' k) b (off k h.1) h.0,
            λ h. (falls_moved n (slot_in es' k) (slot_in es k) b (sym (off k (apart b k h))) h, apart b k h),
          ));
      ends = λ k. elim (cases_eq k x) [
        | inl is ↦ subst (λ j. HasEnds (pair_at ps j) (slot_in es' j)) (sym is) (no_ends (pair_at ps x) (slot_in es' x) none)
        | inr ne ↦ ends_same (pair_at ps k) (slot_in es k) (slot_in es' k) (off k ne) (i.ends k ne)
      ];
    }

-- ---- empty buckets are filled

pub index_none : (bs : List Ring) (ps : List Pair) → AllEmpty bs → Indexes bs ps []
index_none bs ps empty = record {
  rings = rings_by (first_in bs) (count_in bs) (next_pair ps) (prev_pair ps) (FallsIn (length bs) [])
      (λ b. ([], empty b, tt, record { once = λ i j less within e. absurd (omega arith); each = λ k. (λ h. (let l = h.1 in absurd (omega arith)), λ h. absurd h) }));
  ends = λ k. tt;
}

pub slot_front : {X : Type 0} (xs : List (Option X)) (n k : ℕ) → k < n → slot_in (take n xs) k ≡ slot_in xs k
slot_front [] zero k h = refl
slot_front [] (suc n) k h = refl
slot_front (x ∷ xs) zero k h = absurd (omega arith)
slot_front (x ∷ xs) (suc n) zero h = refl
slot_front (x ∷ xs) (suc n) (suc k) h = slot_front xs n k (omega arith)

pub slot_behind : {X : Type 0} (xs : List (Option X)) (n k : ℕ) → n ≤ k → slot_in (take n xs) k ≡ None
slot_behind [] zero k h = refl
slot_behind [] (suc n) k h = refl
slot_behind (x ∷ xs) zero k h = refl
slot_behind (x ∷ xs) (suc n) zero h = absurd (omega arith)
slot_behind (x ∷ xs) (suc n) (suc k) h = slot_behind xs n k (omega arith)

below : (k n : ℕ) → (k < n) ⊎ (n ≤ k)
below k zero = inr (omega arith)
below zero (suc n) = inl (omega arith)
below (suc k) (suc n) = elim (below k n) [ inl h ↦ inl (omega arith) | inr h ↦ inr (omega arith) ]

-- but for the last, a longer front has the slots of a shorter one
pub front_more : {X : Type 0} (xs : List (Option X)) (n k : ℕ) → k ≢ n → slot_in (take (n + 1) xs) k ≡ slot_in (take n xs) k
front_more xs n k ne =
    elim (below k n) [
      | inl h ↦ slot_front xs (n + 1) k (omega arith) ∙ sym (slot_front xs n k h)
      | inr h ↦ slot_behind xs (n + 1) k (omega arith) ∙ sym (slot_behind xs n k h)
    ]

-- where the next slot is vacant, a longer front has the slots of a shorter one
pub front_same : {X : Type 0} (xs : List (Option X)) (n : ℕ) → slot_in xs n ≡ None → (k : ℕ) → slot_in (take (n + 1) xs) k ≡ slot_in (take n xs) k
front_same xs n none k =
    elim (cases_eq k n) [
      | inl is ↦ subst (λ i. slot_in (take (n + 1) xs) i ≡ slot_in (take n xs) i) (sym is) (slot_front xs (n + 1) n (omega arith) ∙ none ∙ sym (slot_behind xs n n (omega arith)))
      | inr ne ↦ front_more xs n k ne
    ]

pub none_of : {X : Type 0} (o : Option X) → is_some o ≡ false → o ≡ None
none_of None h = refl
none_of (Some x) h = absurd cc

pub room_of : {X E : Type 0} (r : Result X E) (a b : ℕ) → is_err r ≡ false → OnOk r (a ≤ b) → a ≤ b
room_of (Ok x) a b h p = p
room_of (Err e) a b h p = absurd cc

pub front_none : {X : Type 0} (xs : List X) → take 0 xs ≡ []
front_none [] = refl
front_none (x ∷ xs) = refl

-- ---- walks

between_pair-at : (count m n : ℕ) (p : Pair) (o : Option EdgeSlot) → HasEnds p o
    → IsSomeAnd (option_map edge_of o) (λ d. (d.source ≡ m) × (d.target ≡ n)) ↔ (IsSomeAnd (pair_in o) (λ q. bucket_of count q.0 q.1 ≡ bucket_of count m n) × (has_ends m n p ≡ true))
between_pair-at count m n p None i = (λ h. absurd h, λ h. absurd h.0)
between_pair-at count m n p (Some s) i = (
  λ h. (ap₂ (bucket_of count) h.0 h.1, both_to (p.source == m) (p.target == n) (eq-eqb p.source m (i.0 ∙ h.0)) (eq-eqb p.target n (i.1 ∙ h.1))),
  λ h. let b = both_of (p.source == m) (p.target == n) h.1 in (sym i.0 ∙ eqb-true p.source m b.0, sym i.1 ∙ eqb-true p.target n b.1),
)

pub walks_pairs : (ns : List (Option NodeSlot)) (bs : List Ring) (ps : List Pair) (es : List (Option EdgeSlot)) (m n : ℕ) (r : Ring) → Indexes bs ps es → r ≡ ring_at bs (bucket_of (length bs) m n)
    → Walks (those (λ e. has_ends m n (pair_at ps e)) (follow (next_pair ps) r.count r.first)) (GoesBetween (graph_from ns es) m n)
walks_pairs ns bs ps es m n r i is =
    let b = bucket_of (length bs) m n in
    subst (λ (q : Ring). Walks (those (λ e. has_ends m n (pair_at ps e)) (follow (next_pair ps) q.count q.first)) (GoesBetween (graph_from ns es) m n)) (sym is)
    (Walks-those (λ e. has_ends m n (pair_at ps e)) (follow (next_pair ps) (count_in bs b) (first_in bs b)) (FallsIn (length bs) es b) (GoesBetween (graph_from ns es) m n) (i.rings.walks b)
    (λ k. rw (seen_at edge_of es k) (between_pair-at (length bs) m n (pair_at ps k) (slot_in es k) (i.ends k))))
