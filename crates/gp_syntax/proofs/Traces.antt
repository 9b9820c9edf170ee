-- Traces and what they replay to, joined from their parts.
use Rattle.std.proofs.Common.{◌≡◌, ◌⊎◌, inl, inr, ℕ, ◌+◌, ◌-◌, ◌≤◌, List, [], ◌∷◌, ◌++◌, length, take, slice_get, Some, refl, sym, ap, subst, ◌∙◌, arith, append_assoc, append-nil, length-append, length-take-le}
use Rattle.std.proofs.Math.Seq.{take-append-add}
use Rattle.std.proofs.lemmas.List.{length_push}
use Rattle.gp_values.specs.Graph.{Graph}
use Rattle.gp_syntax.specs.Rule.{Rule, Found}
use Rattle.gp_syntax.specs.Step.{Step}
use Rattle.gp_syntax.specs.Run.{Item, Stepped, Turned, Back, live_after, live_from, live, undone}
use Rattle.gp_syntax.specs.Replay.{StepsTo, BacksFit, Replays}

-- ---- live steps

-- the live steps after two traces are those after the second, begun with those after the first
pub live_from-append : (t u : List Item) (ms : List Found) → live_from ms (t ++ u) ≡ live_from (live_from ms t) u
live_from-append [] u ms = refl
live_from-append (i ∷ t) u ms = live_from-append t u (live_after ms i)

-- what is taken back from the end leaves the front
kept_front : (ms ns : List Found) (k : ℕ) → k ≤ length ns → take (length (ms ++ ns) - k) (ms ++ ns) ≡ ms ++ take (length ns - k) ns
kept_front ms ns k l =
    let e : length (ms ++ ns) - k ≡ length ms + (length ns - k) = omega (arith, length-append ms ns) in
    ap (λ n. take n (ms ++ ns)) e ∙ take-append-add ms ns (length ns - k)

-- a trace that takes back what this many steps before it allow leaves the steps before those as they are
pub live_behind : (t : List Item) (ms ns : List Found) (n : ℕ) → length ns ≡ n → BacksFit n t → live_from (ms ++ ns) t ≡ ms ++ live_from ns t
live_behind [] ms ns n e b = refl
live_behind (Stepped m ∷ t) ms ns n e b =
    let l : length (ns ++ m ∷ []) ≡ n + 1 = length_push ns m ∙ ap (λ k. k + 1) e in
    ap (λ ks. live_from ks t) (append_assoc ms ns (m ∷ [])) ∙ live_behind t ms (ns ++ m ∷ []) (n + 1) l b
live_behind (Turned ∷ t) ms ns n e b = live_behind t ms ns n e b
live_behind (Back k ∷ t) ms ns n e b =
    let h : k ≤ n = b.0 in
    let l : length (take (length ns - k) ns) ≡ n - k = length-take-le (length ns - k) ns (omega arith) ∙ ap (λ i. i - k) e in
    ap (λ ks. live_from ks t) (kept_front ms ns k (omega arith)) ∙ live_behind t ms (take (length ns - k) ns) (n - k) l b.1

-- a trace that takes back steps of its own alone, after others
pub live_on : (t : List Item) (ms : List Found) → BacksFit 0 t → live_from ms t ≡ ms ++ live t
live_on t ms b = ap (λ ks. live_from ks t) (sym (append-nil ms)) ∙ live_behind t ms [] 0 refl b

-- the live steps of two traces, of which the second takes back its own alone
pub live-append : (t u : List Item) → BacksFit 0 u → live (t ++ u) ≡ live t ++ live u
live-append t u b = live_from-append t u [] ∙ live_on u (live t) b

-- nothing is live once all is taken back
pub live-undone : (t : List Item) → live (undone t) ≡ []
live-undone t =
    let e : length (live t) - length (live t) ≡ 0 = omega arith in
    live_from-append t (Back (length (live t)) ∷ []) [] ∙ ap (λ n. take n (live t)) e

-- ---- what may be taken back

-- with more live steps before, no less
fits_more : (t : List Item) (n k : ℕ) → n ≤ k → BacksFit n t → BacksFit k t
fits_more [] n k l b = tt
fits_more (Stepped m ∷ t) n k l b = fits_more t (n + 1) (k + 1) (omega arith) b
fits_more (Turned ∷ t) n k l b = fits_more t n k l b
fits_more (Back i ∷ t) n k l b = (let h : i ≤ n = b.0 in omega arith, fits_more t (n - i) (k - i) (omega arith) b.1)

-- a trace and one that fits the steps that are live behind it
fits_behind : (t u : List Item) (ns : List Found) (n : ℕ) → length ns ≡ n → BacksFit n t → BacksFit (length (live_from ns t)) u → BacksFit n (t ++ u)
fits_behind [] u ns n e b c = subst (λ i. BacksFit i u) e c
fits_behind (Stepped m ∷ t) u ns n e b c = fits_behind t u (ns ++ m ∷ []) (n + 1) (length_push ns m ∙ ap (λ k. k + 1) e) b c
fits_behind (Turned ∷ t) u ns n e b c = fits_behind t u ns n e b c
fits_behind (Back k ∷ t) u ns n e b c =
    let h : k ≤ n = b.0 in
    let l : length (take (length ns - k) ns) ≡ n - k = length-take-le (length ns - k) ns (omega arith) ∙ ap (λ i. i - k) e in
    (h, fits_behind t u (take (length ns - k) ns) (n - k) l b.1 c)

-- two traces that each take back their own alone
pub fits-append : (t u : List Item) → BacksFit 0 t → BacksFit 0 u → BacksFit 0 (t ++ u)
fits-append t u b c = fits_behind t u [] 0 refl b (fits_more u 0 (length (live t)) (omega arith) c)

-- a trace that is taken back
pub fits-undone : (t : List Item) → BacksFit 0 t → BacksFit 0 (undone t)
fits-undone t b = fits_behind t (Back (length (live t)) ∷ []) [] 0 refl b (let l : length (live t) ≤ length (live t) = omega arith in l, tt)

-- ---- replay

-- steps, and then further ones
steps-append : (rules : List Rule) (ms ns : List Found) (g h k : Graph) → StepsTo rules g ms h → StepsTo rules h ns k → StepsTo rules g (ms ++ ns) k
steps-append rules [] ns g h k a b = subst (λ (z : Graph). StepsTo rules z ns k) a b
steps-append rules (m ∷ ms) ns g h k a b = (a.0, a.1, a.2, a.3, steps-append rules ms ns a.0 h k a.4 b)

-- a trace, and then a further one
pub replays-append : (rules : List Rule) (t u : List Item) (g h k : Graph) → Replays rules g t h → Replays rules h u k → Replays rules g (t ++ u) k
replays-append rules t u g h k a b = record {
  backs = fits-append t u a.backs b.backs;
  steps = subst (λ (ms : List Found). StepsTo rules g ms k) (sym (live-append t u b.backs)) (steps-append rules (live t) (live u) g h k a.steps b.steps);
}

-- a trace that is taken back leads to where it began
pub replays-undone : (rules : List Rule) (t : List Item) (g h : Graph) → Replays rules g t h → Replays rules g (undone t) g
replays-undone rules t g h a = record {
  backs = fits-undone t a.backs;
  steps = subst (λ (ms : List Found). StepsTo rules g ms g) (sym (live-undone t)) refl;
}

-- ---- a trace with its beginnings

-- the whole trace leads from the one graph to the other, and each beginning to some graph
pub record Traced (rules : List Rule) (g : Graph) (t : List Item) (h : Graph) : Type 0 where
  pub whole : Replays rules g t h
  pub beginnings : (u v : List Item) → t ≡ u ++ v → (k : Graph) × Replays rules g u k

-- no item leads nowhere else
replays_nothing : (rules : List Rule) (g : Graph) → Replays rules g [] g
replays_nothing rules g = record { backs = tt; steps = refl }

-- a beginning of nothing, and of one item
nothing_begins : (rules : List Rule) (g : Graph) (u v : List Item) → [] ≡ u ++ v → (k : Graph) × Replays rules g u k
nothing_begins rules g [] v e = (g, replays_nothing rules g)
nothing_begins rules g (i ∷ u) v e = absurd cc

-- a beginning of one item is nothing, or the item
one_begins : (rules : List Rule) (g h : Graph) (i : Item) → Replays rules g (i ∷ []) h → (u v : List Item) → i ∷ [] ≡ u ++ v → (k : Graph) × Replays rules g u k
one_begins rules g h i a [] v e = (g, replays_nothing rules g)
one_begins rules g h i a (j ∷ []) v e =
    let s : i ≡ j = cc in
    (h, subst (λ (x : Item). Replays rules g (x ∷ []) h) s a)
one_begins rules g h i a (j ∷ (l ∷ u)) v e = absurd cc

-- no item
pub traced-nothing : {rules : List Rule} {g : Graph} → Traced rules g [] g
traced-nothing {rules} {g} = record { whole = replays_nothing rules g; beginnings = nothing_begins rules g }

-- one item that replays
traced-one : (rules : List Rule) (g h : Graph) (i : Item) → Replays rules g (i ∷ []) h → Traced rules g (i ∷ []) h
traced-one rules g h i a = record { whole = a; beginnings = one_begins rules g h i a }

-- one step
pub traced-step : {rules : List Rule} {g h : Graph} {m : Found} {r : Rule} → slice_get rules m.rule ≡ Some r → Step r g m h → Traced rules g (Stepped m ∷ []) h
traced-step {rules} {g} {h} {m} {r} e s = traced-one rules g h (Stepped m) (record { backs = tt; steps = (h, r, e, s, refl) })

-- one turn
turn : (rules : List Rule) (g : Graph) → Traced rules g (Turned ∷ []) g
turn rules g = traced-one rules g g Turned (record { backs = tt; steps = refl })

-- a beginning of two traces after one another is one of the first, or the first and a beginning of the second
split : (t u w v : List Item) → t ++ u ≡ w ++ v → ((b : List Item) × (t ≡ w ++ b)) ⊎ ((a : List Item) × (w ≡ t ++ a) × (u ≡ a ++ v))
split [] u w v e = inr (w, refl, e)
split (x ∷ t) u [] v e = inl (x ∷ t, refl)
split (x ∷ t) u (y ∷ w) v e =
    let first : x ≡ y = cc in
    let rest : t ++ u ≡ w ++ v = cc in
    elim (split t u w v rest) [
      | inl p ↦ inl (p.0, λ i. first i ∷ p.1 i)
      | inr p ↦ inr (p.0, λ i. sym first i ∷ p.1 i, p.2)
    ]

-- a trace, and then a further one
pub traced-append : {rules : List Rule} {g h k : Graph} {t u : List Item} → Traced rules g t h → Traced rules h u k → Traced rules g (t ++ u) k
traced-append {rules} {g} {h} {k} {t} {u} a b = record {
  whole = replays-append rules t u g h k a.whole b.whole;
  beginnings = λ w v e. elim (split t u w v e) [
    | inl p ↦ a.beginnings w p.0 p.1
    | inr p ↦ (let c = b.beginnings p.0 v p.2 in
        (c.0, subst (λ (z : List Item). Replays rules g z c.0) (sym p.1) (replays-append rules t p.0 g h c.0 a.whole c.1)))
  ];
}

-- what is taken back has been taken back, or not yet
begins_undone : (rules : List Rule) (g h : Graph) (t a v : List Item) → Traced rules g t h → Back (length (live t)) ∷ [] ≡ a ++ v → (k : Graph) × Replays rules g (t ++ a) k
begins_undone rules g h t [] v b e = (h, subst (λ (z : List Item). Replays rules g z h) (sym (append-nil t)) b.whole)
begins_undone rules g h t (j ∷ []) v b e =
    let s : Back (length (live t)) ≡ j = cc in
    (g, subst (λ (x : Item). Replays rules g (t ++ x ∷ []) g) s (replays-undone rules t g h b.whole))
begins_undone rules g h t (j ∷ (l ∷ a)) v b e = absurd cc

-- a trace, and then what takes it back
pub traced-undone : {rules : List Rule} {g h : Graph} {t : List Item} → Traced rules g t h → Traced rules g (undone t) g
traced-undone {rules} {g} {h} {t} b = record {
  whole = replays-undone rules t g h b.whole;
  beginnings = λ w v e. elim (split t (Back (length (live t)) ∷ []) w v e) [
    | inl p ↦ b.beginnings w p.0 p.1
    | inr p ↦ (let c = begins_undone rules g h t p.0 v b p.2 in (c.0, subst (λ (z : List Item). Replays rules g z c.0) (sym p.1) c.1))
  ];
}

-- a turn, and then a trace
pub traced-turned : {rules : List Rule} {g h : Graph} {t : List Item} → Traced rules g t h → Traced rules g (Turned ∷ t) h
traced-turned {rules} {g} {h} {t} a = traced-append {t = Turned ∷ []} {u = t} (turn rules g) a

-- an equal trace
pub traced_as : {rules : List Rule} {g h : Graph} {t v : List Item} → v ≡ t → Traced rules g t h → Traced rules g v h
traced_as {rules} {g} {h} e a = subst (λ (z : List Item). Traced rules g z h) (sym e) a
