-- Kinds of edits, one after another, and what each makes of the two halves of a graph.
use Rattle.std.proofs.Common.{◌≡◌, ◌≢◌, inl, inr, ℕ, zero, suc, ◌+◌, ◌<◌, Bool, true, false, cond, if◌then◌else◌, List, [], ◌∷◌, map, fold, length, count_by, Option, Some, None, IsSome, is_none, slice_get, slice_index, Contains, refl, sym, ap, subst, ◌∙◌, arith}
use Rattle.std.specs.Option.{option_map_or}
use Rattle.std.specs.Ordering.{nat_cmp}
use Rattle.std.specs.Cmp.{nat_cmp_total, unsigned_tied}
use Rattle.std.specs.FinMap.{FinMap, get, insert, gets, same_map, nat_cmp-IsAntisymmetric}
use Rattle.std.proofs.lemmas.Grind.{common_steps}
use Rattle.gp_memory.proofs.Basics.{here as at_head, later as behind, one_more, some_same, stands_in}
use Rattle.gp_values.specs.declared.atom.Atom.{Atom}
use Rattle.gp_values.specs.declared.marks.EdgeMark.{EdgeMark}
use Rattle.gp_values.specs.Apart.{AreApart}
use Rattle.gp_values.specs.Graph.{Graph, Node, Edge, HasNoEdges, node_at, edge_at, with_node, with_edge, without_node, without_edge, relabeled, relabeled_edge}
use Rattle.gp_values.proofs.Graphs.{get-remove_apart, get-insert_cases, IsSome-insert}
use Rattle.gp_step.specs.Halves.{image_of, next_of, gone, cut, put_all}
use Rattle.gp_step.specs.inside.Changes.{kept_first, kept_of, new_first, new_of, carried_by, drop_edges, relabel_edges, drop_nodes, relabel_nodes, with_nodes, with_edges, MayDropEdges, MayRelabelEdges, MayDropNodes, MayRelabelNodes, MayPutEdges}
use Rattle.gp_step.proofs.Halves.{apart_rest, apart_head, gone_place, count-cons}

-- ---- one half

abbrev pub write : {X : Type 0} → List (ℕ × X) → FinMap nat_cmp X → FinMap nat_cmp X
write {X} ps s = fold (λ t (p : ℕ × X). insert t p.0 p.1) s ps

abbrev pub add_all : {X : Type 0} → List X → FinMap nat_cmp X → ℕ → FinMap nat_cmp X
add_all [] s k = s
add_all (x ∷ xs) s k = add_all xs (insert s k x) (k + 1)

inserted : {X : Type 0} (s : FinMap nat_cmp X) (n k : ℕ) (x y : X) (q : ℕ) → n ≢ k → get (insert (insert s k x) n y) q ≡ get (insert (insert s n y) k x) q
inserted s n k x y q d = grind (gets, arith, common_steps, unsigned_tied q n, unsigned_tied q k)

insert-insert : {X : Type 0} (s : FinMap nat_cmp X) (n k : ℕ) (x y : X) → n ≢ k → insert (insert s k x) n y ≡ insert (insert s n y) k x
insert-insert s n k x y d = same_map nat_cmp_total nat_cmp-IsAntisymmetric _ _ (λ q. inserted s n k x y q d)

-- at an item that is kept and at a new one: writing first and adding then is putting in the order of the text
module _ {Q X : Type 0} (found : List ℕ) (keeps : Q → Option ℕ) (make : Q → X) where
  abbrev KeptBelow : List Q → ℕ → Type 0
  KeptBelow qs k = (j i : ℕ) → slice_get (map keeps qs) j ≡ Some (Some i) → slice_index found i < k

  later : (o : Option ℕ) (x y : X) (ps : List (ℕ × X)) (s : FinMap nat_cmp X) (k : ℕ) → ((i : ℕ) → o ≡ Some i → slice_index found i < k)
      → ((t : FinMap nat_cmp X) → write ps (insert t k x) ≡ insert (write ps t) k x) → write (kept_first found o y ps) (insert s k x) ≡ insert (write (kept_first found o y ps) s) k x
  later None x y ps s k below rest = rest s
  later (Some i) x y ps s k below rest =
      let l : slice_index found i < k = below i refl in
      let d : slice_index found i ≢ k = omega arith in
      ap (write ps) (insert-insert s (slice_index found i) k x y d) ∙ rest (insert s (slice_index found i) y)

  write-insert : (qs : List Q) (s : FinMap nat_cmp X) (k : ℕ) (x : X) → KeptBelow qs k → write (kept_of found keeps make qs) (insert s k x) ≡ insert (write (kept_of found keeps make qs) s) k x
  write-insert [] s k x b = refl
  write-insert (q ∷ qs) s k x b =
      later (keeps q) x (make q) (kept_of found keeps make qs) s k (λ i e. b 0 i (ap (λ z. Some z) e)) (λ t. write-insert qs t k x (λ j i e. b (suc j) i e))

  one_put : (o : Option ℕ) (x : X) (xs : List X) (ps : List (ℕ × X)) (s : FinMap nat_cmp X) (k : ℕ) (end : FinMap nat_cmp X → ℕ → FinMap nat_cmp X) → write ps (insert s k x) ≡ insert (write ps s) k x
      → ((t : FinMap nat_cmp X) → add_all xs (write ps t) (next_of o k) ≡ end t (next_of o k))
      → add_all (new_first o x xs) (write (kept_first found o x ps) s) k ≡ end (insert s (image_of found o k) x) (next_of o k)
  one_put None x xs ps s k end swap rest = ap (λ t. add_all xs t (k + 1)) (sym swap) ∙ rest (insert s k x)
  one_put (Some i) x xs ps s k end swap rest = rest (insert s (slice_index found i) x)

  no_less : (o : Option ℕ) (n k : ℕ) → n < k → n < next_of o k
  no_less None n k l = omega arith
  no_less (Some i) n k l = l

  pub placed : (qs : List Q) (s : FinMap nat_cmp X) (k : ℕ) → KeptBelow qs k → add_all (new_of keeps make qs) (write (kept_of found keeps make qs) s) k ≡ put_all found keeps make qs s k
  placed [] s k b = refl
  placed (q ∷ qs) s k b =
      one_put (keeps q) (make q) (new_of keeps make qs) (kept_of found keeps make qs) s k (put_all found keeps make qs) (write-insert qs s k (make q) (λ j i e. b (suc j) i e))
      (λ t. placed qs t (next_of (keeps q) k) (λ j i e. no_less (keeps q) (slice_index found i) k (b (suc j) i e)))

  one_new : (o : Option ℕ) (x : X) (xs : List X) (n : ℕ) → length xs ≡ n → length (new_first o x xs) ≡ cond (is_none o) 1 0 + n
  one_new None x xs n e = omega arith
  one_new (Some i) x xs n e = e ∙ (omega arith)

  pub length-new : (qs : List Q) → length (new_of keeps make qs) ≡ count_by is_none (map keeps qs)
  length-new [] = refl
  length-new (q ∷ qs) = one_new (keeps q) (make q) (new_of keeps make qs) (count_by is_none (map keeps qs)) (length-new qs) ∙ sym (count-cons (keeps q) (map keeps qs))

  -- what is new comes from an item
  pub from_new : (qs : List Q) (P : X → Type 0) → ((j : ℕ) (q : Q) → slice_get qs j ≡ Some q → P (make q)) → (k : ℕ) (x : X) → slice_get (new_of keeps make qs) k ≡ Some x → P x
  from_new [] P h k x e = absurd cc
  from_new (q ∷ qs) P h k x e = first (keeps q) k e (h 0 q refl) (from_new qs P (λ j p i. h (suc j) p i))
    where
      first : (o : Option ℕ) (k : ℕ) → slice_get (new_first o (make q) (new_of keeps make qs)) k ≡ Some x → P (make q) → ((k : ℕ) (x : X) → slice_get (new_of keeps make qs) k ≡ Some x → P x) → P x
      first (Some i) k e here rest = rest k x e
      first None zero e here rest = subst P (some_same e) here
      first None (suc k) e here rest = rest k x e

-- ---- what each kind makes of the two halves

pub drop_edges_half : (es : List ℕ) (g : Graph) → drop_edges es g ≡ record g { edges = cut es g.edges }
drop_edges_half [] g = refl
drop_edges_half (e ∷ es) g = drop_edges_half es (without_edge g e)

pub drop_nodes_half : (ns : List ℕ) (g : Graph) → drop_nodes ns g ≡ record g { nodes = cut ns g.nodes }
drop_nodes_half [] g = refl
drop_nodes_half (n ∷ ns) g = drop_nodes_half ns (without_node g n)

pub relabel_nodes_half : (ps : List (ℕ × Node)) (g : Graph) → relabel_nodes ps g ≡ record g { nodes = write ps g.nodes }
relabel_nodes_half [] g = refl
relabel_nodes_half (p ∷ ps) g = relabel_nodes_half ps (relabeled g p.0 p.1)

no_more : (n : ℕ) → n ≡ n + 0
no_more n = omega arith

pub with_nodes_half : (xs : List Node) (g : Graph) → with_nodes xs g ≡ record g { nodes = add_all xs g.nodes g.next_node; next_node = g.next_node + length xs }
with_nodes_half [] g = ap (λ n. record g { next_node = n }) (no_more g.next_node)
with_nodes_half (x ∷ xs) g = with_nodes_half xs (with_node g x) ∙ ap (λ n. record g { nodes = add_all (x ∷ xs) g.nodes g.next_node; next_node = n }) (one_more g.next_node (length xs))

pub with_edges_half : (ds : List Edge) (g : Graph) → with_edges ds g ≡ record g { edges = add_all ds g.edges g.next_edge; next_edge = g.next_edge + length ds }
with_edges_half [] g = ap (λ n. record g { next_edge = n }) (no_more g.next_edge)
with_edges_half (d ∷ ds) g = with_edges_half ds (with_edge g d) ∙ ap (λ n. record g { edges = add_all (d ∷ ds) g.edges g.next_edge; next_edge = n }) (one_more g.next_edge (length ds))

-- ---- edges that are kept

-- an edge that carries something else
pub edge_relabeled : (g : Graph) (e : ℕ) (d x : Edge) → edge_at g e ≡ Some d → d.source ≡ x.source → d.target ≡ x.target → relabeled_edge g e x.label x.mark ≡ record g { edges = insert g.edges e x }
edge_relabeled g e d x i s t =
    ap (λ o. option_map_or (λ (z : Edge). record g { edges = insert g.edges e (record z { label = x.label; mark = x.mark }) }) o g) i
    ∙ (λ i. record g { edges = insert g.edges e (record { source = s i; target = t i; label = x.label; mark = x.mark }) })

-- an edge with these ends
abbrev pub HasEnds : Option Edge → Edge → Type 0
HasEnds o x = (d : Edge) × (o ≡ Some d) × (d.source ≡ x.source) × (d.target ≡ x.target)

-- edges may be relabelled, and these then stand at their numbers
abbrev pub MayAs : List (ℕ × Edge) → List (ℕ × (List Atom × EdgeMark)) → Graph → Type 0
MayAs ps ks g = MayRelabelEdges ks g × (relabel_edges ks g ≡ record g { edges = write ps g.edges })

module _ {Q : Type 0} (found : List ℕ) (keeps : Q → Option ℕ) (make : Q → Edge) where
  abbrev pub KeptStand : List Q → Graph → Type 0
  KeptStand qs g = (j i : ℕ) (q : Q) → slice_get qs j ≡ Some q → keeps q ≡ Some i → HasEnds (edge_at g (slice_index found i)) (make q)

  -- after one of them, the others are still there
  still : (g : Graph) (n k : ℕ) (x y : Edge) → HasEnds (edge_at g n) x → HasEnds (edge_at g k) y → HasEnds (get (insert g.edges n x) k) y
  still g n k x y h l =
      elim (get-insert_cases g.edges n k x) [
        | inl c ↦
            (let e : h.0 ≡ l.0 = some_same (sym h.1 ∙ ap (edge_at g) (sym c.0) ∙ l.1) in
            (x, c.1, sym h.2 ∙ ap (λ (z : Edge). z.source) e ∙ l.2, sym h.3 ∙ ap (λ (z : Edge). z.target) e ∙ l.3))
        | inr c ↦ (l.0, c.1 ∙ l.1, l.2, l.3)
      ]

  first_edge : (o : Option ℕ) (x : Edge) (ps : List (ℕ × Edge)) (ks : List (ℕ × (List Atom × EdgeMark))) (g : Graph) → ((i : ℕ) → o ≡ Some i → HasEnds (edge_at g (slice_index found i)) x)
      → ((h : Graph) → ((k : ℕ) (y : Edge) → HasEnds (edge_at g k) y → HasEnds (edge_at h k) y) → MayAs ps ks h) → MayAs (kept_first found o x ps) (kept_first found o (carried_by x) ks) g
  first_edge None x ps ks g here rest = rest g (λ k y h. h)
  first_edge (Some i) x ps ks g here rest =
      let n = slice_index found i in
      let h = here i refl in
      let same = edge_relabeled g n h.0 x h.1 h.2 h.3 in
      let r = rest (record g { edges = insert g.edges n x }) (λ k y l. still g n k x y h l) in
      ((rw h.1 refl, subst (MayRelabelEdges ks) (sym same) r.0), ap (relabel_edges ks) same ∙ r.1)

  pub kept_relabeled : (qs : List Q) (g : Graph) → KeptStand qs g → MayAs (kept_of found keeps make qs) (kept_of found keeps (λ q. carried_by (make q)) qs) g
  kept_relabeled [] g h = (tt, refl)
  kept_relabeled (q ∷ qs) g h =
      first_edge (keeps q) (make q) (kept_of found keeps make qs) (kept_of found keeps (λ q. carried_by (make q)) qs) g (λ i e. h 0 i q refl e)
      (λ k stays. kept_relabeled qs k (λ j i p e o. stays (slice_index found i) (make p) (h (suc j) i p e o)))

-- relabelling leaves the ends, and finds no edge that was not there
one_ends : (g : Graph) (n e : ℕ) (l : List Atom) (m : EdgeMark) (d : Edge) (o : Option Edge) → edge_at g n ≡ o → get (option_map_or (λ (z : Edge). record g { edges = insert g.edges n (record z { label = l; mark = m }) }) o g).edges e ≡ Some d → HasEnds (edge_at g e) d
one_ends g n e l m d None i h = (d, h, refl, refl)
one_ends g n e l m d (Some c) i h =
    elim (get-insert_cases g.edges n e (record c { label = l; mark = m })) [
      | inl k ↦
          (let f : ◌≡◌ {A = Edge} (record c { label = l; mark = m }) d = some_same (sym k.1 ∙ h) in
          (c, ap (edge_at g) k.0 ∙ i, ap (λ (z : Edge). z.source) f, ap (λ (z : Edge). z.target) f))
      | inr k ↦ (d, sym k.1 ∙ h, refl, refl)
    ]

pub ends_stay : (ks : List (ℕ × (List Atom × EdgeMark))) (g : Graph) (e : ℕ) (d : Edge) → edge_at (relabel_edges ks g) e ≡ Some d → HasEnds (edge_at g e) d
ends_stay [] g e d h = (d, h, refl, refl)
ends_stay (k ∷ ks) g e d h =
    let r = ends_stay ks (relabeled_edge g k.0 k.1.0 k.1.1) e d h in
    let o = one_ends g k.0 e k.1.0 k.1.1 r.0 (edge_at g k.0) refl r.1 in
    (o.0, o.1, o.2 ∙ r.2, o.3 ∙ r.3)

-- ---- each edit may be made after those before it

pub edges_may : (es : List ℕ) (g : Graph) → ((e : ℕ) → Contains es e → IsSome (edge_at g e)) → AreApart es → MayDropEdges es g
edges_may [] g h a = tt
edges_may (e ∷ es) g h a = (
  h e (at_head e es e refl),
  edges_may es (without_edge g e)
      (λ k c. subst IsSome (sym (get-remove_apart g.edges e k (λ s. apart_head e es a (subst (Contains es) s c)))) (h k (behind e es k c)))
      (apart_rest e es a),
)

pub nodes_may : (ns : List ℕ) (g : Graph) → ((n : ℕ) → Contains ns n → IsSome (node_at g n) × HasNoEdges g n) → AreApart ns → MayDropNodes ns g
nodes_may [] g h a = tt
nodes_may (n ∷ ns) g h a =
    let first = h n (at_head n ns n refl) in (
      first.0,
      first.1,
      nodes_may ns (without_node g n)
          (λ k c.
          let both = h k (behind n ns k c) in
          (subst IsSome (sym (get-remove_apart g.nodes n k (λ s. apart_head n ns a (subst (Contains ns) s c)))) both.0, both.1))
          (apart_rest n ns a),
    )

module _ {Q : Type 0} (found : List ℕ) (keeps : Q → Option ℕ) (make : Q → Node) where
  first_may : (o : Option ℕ) (x : Node) (ps : List (ℕ × Node)) (g : Graph) → ((i : ℕ) → o ≡ Some i → IsSome (node_at g (slice_index found i)))
      → ((h : Graph) → ((n : ℕ) → IsSome (node_at g n) → IsSome (node_at h n)) → MayRelabelNodes ps h) → MayRelabelNodes (kept_first found o x ps) g
  first_may None x ps g here rest = rest g (λ n s. s)
  first_may (Some i) x ps g here rest = (here i refl, rest (relabeled g (slice_index found i) x) (λ n s. IsSome-insert g.nodes (slice_index found i) n x s))

  pub kept_may : (qs : List Q) (g : Graph) → ((j i : ℕ) → slice_get (map keeps qs) j ≡ Some (Some i) → IsSome (node_at g (slice_index found i))) → MayRelabelNodes (kept_of found keeps make qs) g
  kept_may [] g h = tt
  kept_may (q ∷ qs) g h =
      first_may (keeps q) (make q) (kept_of found keeps make qs) g (λ i e. h 0 i (ap (λ z. Some z) e))
      (λ k stays. kept_may qs k (λ j i e. stays (slice_index found i) (h (suc j) i e)))

pub ends_may : (ds : List Edge) (g : Graph) → ((k : ℕ) (d : Edge) → slice_get ds k ≡ Some d → IsSome (node_at g d.source) × IsSome (node_at g d.target)) → MayPutEdges ds g
ends_may [] g h = tt
ends_may (d ∷ ds) g h = let e = h 0 d refl in (e.0, e.1, ends_may ds (with_edge g d) (λ k c i. h (suc k) c i))

-- ---- what goes is apart

pub apart_more : (n : ℕ) (ns : List ℕ) → (Contains ns n → ⊥) → AreApart ns → AreApart (n ∷ ns)
apart_more n ns none a zero zero l k e = absurd (omega arith)
apart_more n ns none a zero (suc j) l k e = let b : j < length ns = omega arith in none (stands_in ns j n b (sym e))
apart_more n ns none a (suc i) zero l k e = absurd (omega arith)
apart_more n ns none a (suc i) (suc j) l k e = a i j (omega arith) (omega arith) e

pub gone_apart : (kept : ℕ → Bool) (ns : List ℕ) → AreApart ns → AreApart (gone kept ns)
gone_apart kept [] a = a
gone_apart kept (n ∷ ns) a = by (kept 0) (gone_apart (λ i. kept (suc i)) ns (apart_rest n ns a))
  where
    by : (b : Bool) → AreApart (gone (λ i. kept (suc i)) ns) → AreApart (if b then gone (λ i. kept (suc i)) ns else n ∷ gone (λ i. kept (suc i)) ns)
    by true h = h
    by false h = apart_more n (gone (λ i. kept (suc i)) ns) (λ c. apart_head n ns a (let z = gone_place (λ i. kept (suc i)) ns n c in stands_in ns z.0 n z.1 z.2)) h
