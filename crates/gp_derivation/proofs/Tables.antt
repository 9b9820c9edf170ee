-- What a table says of the graph as it was.
use Rattle.std.proofs.Common.{inl, inr, ◌≡◌, ℕ, zero, suc, ◌+◌, ◌<◌, ◌≤◌, List, [], ◌∷◌, length, slice_index, Option, Some, None, IsSome, Contains, refl, sym, ap, subst, ◌∙◌, arith}
use Rattle.std.specs.Prelude.{option_and_then, unwrap_or}
use Rattle.std.specs.Option.{option_map}
use Rattle.std.specs.Ordering.{nat_cmp}
use Rattle.std.specs.FinMap.{FinMap, get, get-empty}
use Rattle.std.proofs.lemmas.Bool.{cases_lt}
use Rattle.gp_memory.proofs.Basics.{first_step, here, is_some_of, later, some_same, some_there as some_of}
use Rattle.gp_values.specs.Graph.{Graph, Edge, edge_at}
use Rattle.gp_values.proofs.Graphs.{get-insert_here, get-insert_apart, same_graph}
use Rattle.gp_step.specs.Laws.{IsNumbered}
use Rattle.gp_derivation.specs.Upgrade.{AreAlike}
use Rattle.gp_derivation.specs.inside.Table.{IsTable, today, all_today, put_if, renumbered, as_it_was, own_numbers}

-- ---- options

pub mapped : {X Y : Type 0} (f : X → Y) (o : Option X) (y : Y) → option_map f o ≡ Some y → (x : X) × (o ≡ Some x) × (f x ≡ y)
mapped f None y e = absurd cc
mapped f (Some x) y e = (x, refl, some_same e)

-- ---- the graph as it was

put_here : (e : ℕ) (o : Option Edge) (m : FinMap nat_cmp Edge) → get m e ≡ None → get (put_if e o m) e ≡ o
put_here e None m h = h
put_here e (Some d) m h = get-insert_here m e d

put_apart : (e k : ℕ) (o : Option Edge) (m : FinMap nat_cmp Edge) → (k ≡ e → ⊥) → get (put_if e o m) k ≡ get m k
put_apart e k None m h = refl
put_apart e k (Some d) m h = get-insert_apart m e k d h

none_below : (t : List (Option ℕ)) (b k : ℕ) (s : FinMap nat_cmp Edge) → k < b → get (renumbered t b s) k ≡ None
none_below [] b k s l = rw get-empty refl
none_below (o ∷ os) b k s l = put_apart b k (option_and_then (get s) o) (renumbered os (b + 1) s) (λ e. omega arith) ∙ none_below os (b + 1) k s (omega arith)

renumbered_at : (t : List (Option ℕ)) (b e k : ℕ) (s : FinMap nat_cmp Edge) → k ≡ b + e → get (renumbered t b s) k ≡ option_and_then (get s) (today t e)
renumbered_at [] b e k s i = rw get-empty refl
renumbered_at (o ∷ os) b zero k s i =
    let same : b ≡ k = omega arith in
    subst (λ n. get (put_if b (option_and_then (get s) o) (renumbered os (b + 1) s)) n ≡ option_and_then (get s) o) same
    (put_here b (option_and_then (get s) o) (renumbered os (b + 1) s) (none_below os (b + 1) b s (omega arith)))
renumbered_at (o ∷ os) b (suc e) k s i =
    put_apart b k (option_and_then (get s) o) (renumbered os (b + 1) s) (λ z. omega arith) ∙ renumbered_at os (b + 1) e k s (omega arith)

pub edge_was : (t : List (Option ℕ)) (h : Graph) (e : ℕ) → edge_at (as_it_was t h) e ≡ option_and_then (edge_at h) (today t e)
edge_was t h e = renumbered_at t 0 e e h.edges (omega arith)

-- ---- the table of a graph whose edges have their own numbers

own_at : (g : Graph) (b count e k : ℕ) → k ≡ b + e → e < count → today (own_numbers g b count) e ≡ option_map (λ (d : Edge). k) (edge_at g k)
own_at g b zero e k i l = absurd (omega arith)
own_at g b (suc count) zero k i l = let same : b ≡ k = omega arith in ap (λ n. option_map (λ (d : Edge). n) (edge_at g n)) same
own_at g b (suc count) (suc e) k i l = own_at g (b + 1) count e k (omega arith) (omega arith)

own_past : (g : Graph) (b count e : ℕ) → count ≤ e → today (own_numbers g b count) e ≡ None
own_past g b zero e l = refl
own_past g b (suc count) zero l = absurd (omega arith)
own_past g b (suc count) (suc e) l = own_past g (b + 1) count e (omega arith)

pub length-own : (g : Graph) (b count : ℕ) → length (own_numbers g b count) ≡ count
length-own g b zero = refl
length-own g b (suc count) = ap suc (length-own g (b + 1) count)

-- past the next number no edge is there
none_past : (o : Option Edge) (next e : ℕ) → (IsSome o → e < next) → next ≤ e → None ≡ option_map (λ (d : Edge). e) o
none_past None next e below l = refl
none_past (Some d) next e below l = let b : e < next = below refl in absurd (omega arith)

pub own_today : (g : Graph) → IsNumbered g → (e : ℕ) → today (own_numbers g 0 g.next_edge) e ≡ option_map (λ (d : Edge). e) (edge_at g e)
own_today g w e =
    elim (cases_lt e g.next_edge) [
      | inl l ↦ own_at g 0 g.next_edge e e (omega arith) l
      | inr l ↦ own_past g 0 g.next_edge e l ∙ none_past (edge_at g e) g.next_edge e (w.edges_below e) l
    ]

pub own_table : (g : Graph) → IsNumbered g → IsTable (own_numbers g 0 g.next_edge) g
own_table g w = record {
  there = λ e k h.
      let d = mapped (λ (d : Edge). e) (edge_at g e) k (sym (own_today g w e) ∙ h) in
      subst (λ n. IsSome (edge_at g n)) d.2 (is_some_of (edge_at g e) d.0 d.1);
  apart = λ a b k h i.
      (mapped (λ (d : Edge). a) (edge_at g a) k (sym (own_today g w a) ∙ h)).2
      ∙ sym (mapped (λ (d : Edge). b) (edge_at g b) k (sym (own_today g w b) ∙ i)).2;
  all = λ k s. let d = some_of (edge_at g k) s in (k, own_today g w k ∙ ap (option_map (λ (d : Edge). k)) d.1);
}

its_own : (f : ℕ → Option Edge) (e : ℕ) (o : Option Edge) → f e ≡ o → option_and_then f (option_map (λ (d : Edge). e) o) ≡ o
its_own f e None h = refl
its_own f e (Some d) h = h

pub own_graph : (g : Graph) → IsNumbered g → as_it_was (own_numbers g 0 g.next_edge) g ≡ g
own_graph g w =
    same_graph (as_it_was (own_numbers g 0 g.next_edge) g) g (λ n. refl)
    (λ e. edge_was (own_numbers g 0 g.next_edge) g e ∙ ap (option_and_then (edge_at g)) (own_today g w e) ∙ its_own (edge_at g) e (edge_at g e) refl)
    refl (length-own g 0 g.next_edge)

-- ---- several edges

-- the parts of a list that is all there
pub all_parts : (t : List (Option ℕ)) (e : ℕ) (es ks : List ℕ) → all_today t (e ∷ es) ≡ Some ks → (k : ℕ) × (js : List ℕ) × (ks ≡ k ∷ js) × (today t e ≡ Some k) × (all_today t es ≡ Some js)
all_parts t e es ks h =
    let k = first_step (λ (k : ℕ). option_map (λ js. k ∷ js) (all_today t es)) (today t e) ks h in
    let js = mapped (λ (js : List ℕ). k.0 ∷ js) (all_today t es) ks k.2 in
    (k.0, js.0, sym js.2, k.1, js.1)

pub all_more : (t : List (Option ℕ)) (e k : ℕ) (es ks : List ℕ) → today t e ≡ Some k → all_today t es ≡ Some ks → all_today t (e ∷ es) ≡ Some (k ∷ ks)
all_more t e k es ks i h = rw (i, h) refl

pub all_today_length : (t : List (Option ℕ)) (es ks : List ℕ) → all_today t es ≡ Some ks → length ks ≡ length es
all_today_length t [] ks h = ap (λ (js : List ℕ). length js) (sym (some_same h))
all_today_length t (e ∷ es) ks h =
    let p = all_parts t e es ks h in
    ap (λ (js : List ℕ). length js) p.2 ∙ ap suc (all_today_length t es p.1 p.4)

pub all_today_at : (t : List (Option ℕ)) (es ks : List ℕ) (i : ℕ) → all_today t es ≡ Some ks → i < length es → today t (slice_index es i) ≡ Some (slice_index ks i)
all_today_at t [] ks i h l = absurd (omega arith)
all_today_at t (e ∷ es) ks zero h l = let p = all_parts t e es ks h in p.3 ∙ ap (λ (js : List ℕ). Some (slice_index js 0)) (sym p.2)
all_today_at t (e ∷ es) ks (suc i) h l =
    let p = all_parts t e es ks h in
    all_today_at t es p.1 i p.4 (omega arith) ∙ ap (λ (js : List ℕ). Some (slice_index js (suc i))) (sym p.2)

pub all_there : (t : List (Option ℕ)) (es : List ℕ) → ((e : ℕ) → Contains es e → IsSome (today t e)) → (ks : List ℕ) × (all_today t es ≡ Some ks)
all_there t [] h = ([], refl)
all_there t (e ∷ es) h =
    let k = some_of (today t e) (h e (here e es e refl)) in
    let ks = all_there t es (λ n c. h n (later e es n c)) in
    (k.0 ∷ ks.0, all_more t e k.0 es ks.0 k.1 ks.1)

-- ---- both graphs

-- today's number of an edge that is there, and 0 for another
abbrev pub number_today : List (Option ℕ) → ℕ → ℕ
number_today t e = unwrap_or (today t e) 0

pub number_is : (t : List (Option ℕ)) (e k : ℕ) → today t e ≡ Some k → number_today t e ≡ k
number_is t e k h = ap (λ o. unwrap_or o 0) h

-- an edge as it was is one of today's, and one of today's was one
pub edge_now : (t : List (Option ℕ)) (h : Graph) (e : ℕ) (d : Edge) → edge_at (as_it_was t h) e ≡ Some d → (k : ℕ) × (today t e ≡ Some k) × (edge_at h k ≡ Some d)
edge_now t h e d i = first_step (edge_at h) (today t e) d (sym (edge_was t h e) ∙ i)

pub edge_then : (t : List (Option ℕ)) (h : Graph) (e k : ℕ) → today t e ≡ Some k → edge_at (as_it_was t h) e ≡ edge_at h k
edge_then t h e k i = edge_was t h e ∙ ap (option_and_then (edge_at h)) i

-- today's number of an edge that was there
pub number_of_some : (t : List (Option ℕ)) (h : Graph) (e : ℕ) → IsSome (edge_at (as_it_was t h) e) → today t e ≡ Some (number_today t e)
number_of_some t h e s =
    let d = some_of (edge_at (as_it_was t h) e) s in
    let k = edge_now t h e d.0 d.1 in
    k.1 ∙ ap (λ n. Some n) (sym (number_is t e k.0 k.1))

pub alike : (t : List (Option ℕ)) (h : Graph) → IsTable t h → AreAlike (as_it_was t h) h
alike t h w = record {
  nodes = refl;
  next_node = refl;
  renumbered = number_today t;
  to = λ e d i. let k = edge_now t h e d i in rw (number_is t e k.0 k.1) k.2;
  from = λ k d i.
      let e = w.all k (is_some_of (edge_at h k) d i) in
      (e.0, edge_then t h e.0 k e.1 ∙ i, number_is t e.0 k e.1);
  apart = λ a b i j e. w.apart a b (number_today t a) (number_of_some t h a i) (number_of_some t h b j ∙ ap (λ n. Some n) (sym e));
}
