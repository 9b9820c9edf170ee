-- Two graphs that are alike to one graph are alike, and alike graphs have the same texts.
use Rattle.std.proofs.Common.{inl, inr, ◌≡◌, ℕ, zero, suc, ◌+◌, ◌==◌, Bool, true, false, if◌then◌else◌, List, [], ◌∷◌, ◌++◌, map, length, Option, Some, None, IsSomeAnd, Contains, refl, sym, ap, subst, ◌∙◌, arith}
use Rattle.std.specs.Prelude.{codes, flat_map, unwrap_or, IsPermutation}
use Rattle.std.specs.Ordering.{nat_cmp}
use Rattle.std.specs.FinMap.{FinMap, get, entries}
use Rattle.std.proofs.lemmas.Bool.{eqb-true, eq-eqb}
use Rattle.std.proofs.lemmas.List.{length-map, nil_from_length}
use Rattle.std.proofs.lemmas.Simd.{map-map}
use Rattle.std.proofs.lemmas.List.Sorted.{IsPermutation-refl, IsPermutation-sym, IsPermutation-trans, IsPermutation-cons, IsPermutation-map, IsPermutation-middle}
use Rattle.gp_memory.proofs.Basics.{and_is_some as is_some, and_some, first_or_later, here, is_some_of, later, some_and, some_there as some_of}
use Rattle.gp_values.specs.declared.marks.EdgeMark.TheVariants as edge_marks
use Rattle.gp_values.specs.Apart.{AreApart}
use Rattle.gp_values.specs.Graph.{Graph, Node, Edge, edge_at}
use Rattle.gp_values.specs.Order.{numbered, entries_from}
use Rattle.gp_values.proofs.Order.{entries-walk}
use Rattle.gp_graph.specs.Chains.{without}
use Rattle.gp_graph.specs.Walks.{Walks}
use Rattle.gp_graph.proofs.Numbers.{first_new, others_apart, length-without, Contains-without}
use Rattle.gp_graph.proofs.Degrees.{chosen, Walks-chosen}
use Rattle.gp_step.specs.Laws.{IsNumbered}
use Rattle.gp_hostfile.specs.GraphText.{IsGraphText, node_line, edge_lines, edges_of}
use Rattle.gp_derivation.specs.Upgrade.{AreAlike}
use Rattle.gp_derivation.proofs.Alike.{Walks-map, as_many}

-- ---- alike to one graph

module _ {was g : Graph} (a : AreAlike was g) where
  -- the number that an edge had
  abbrev had : (k : ℕ) (o : Option Edge) → edge_at g k ≡ o → ℕ
  had k None e = 0
  had k (Some d) e = (a.from k d e).0

  abbrev before : ℕ → ℕ
  before k = had k (edge_at g k) refl

  record Had (k : ℕ) (d : Edge) (n : ℕ) : Type 0 where
    there : edge_at was n ≡ Some d
    moved : a.renumbered n ≡ k

  had_so : (k : ℕ) (d : Edge) (o : Option Edge) (e : edge_at g k ≡ o) → o ≡ Some d → Had k d (had k o e)
  had_so k d None e i = absurd cc
  had_so k d (Some c) e i = let f = a.from k c e in record { there = f.1 ∙ i; moved = f.2 }

  was_so : (k : ℕ) (d : Edge) → edge_at g k ≡ Some d → Had k d (before k)
  was_so k d i = had_so k d (edge_at g k) refl i

  pub alike_to_one : (h : Graph) → AreAlike was h → AreAlike g h
  alike_to_one h b = record {
    nodes = b.nodes ∙ sym a.nodes;
    next_node = b.next_node ∙ sym a.next_node;
    renumbered = λ k. b.renumbered (before k);
    to = λ k d i. b.to (before k) d (was_so k d i).there;
    from = λ k d i.
        let e = b.from k d i in
        let there = a.to e.0 d e.1 in
        let f = was_so (a.renumbered e.0) d there in
        let same = a.apart (before (a.renumbered e.0)) e.0 (is_some_of (edge_at was (before (a.renumbered e.0))) d f.there) (is_some_of (edge_at was e.0) d e.1) f.moved in
        (a.renumbered e.0, there, ap b.renumbered same ∙ e.2);
    apart = λ j k i l e.
        let c = some_of (edge_at g j) i in
        let d = some_of (edge_at g k) l in
        let x = was_so j c.0 c.1 in
        let y = was_so k d.0 d.1 in
        sym x.moved ∙ ap a.renumbered (b.apart (before j) (before k) (is_some_of (edge_at was (before j)) c.0 x.there) (is_some_of (edge_at was (before k)) d.0 y.there) e) ∙ y.moved;
  }

-- ---- lists of numbers that are apart

taken_out : (x : ℕ) (ys : List ℕ) → Contains ys x → IsPermutation ys (x ∷ without x ys)
taken_out x [] c = let b = c.1 in absurd (omega arith)
taken_out x (y ∷ ys) c = by (y == x) refl (taken_out x ys)
  where
    by : (b : Bool) → (y == x) ≡ b → (Contains ys x → IsPermutation ys (x ∷ without x ys)) → IsPermutation (y ∷ ys) (x ∷ (if b then ys else y ∷ without x ys))
    by true e rest = subst (λ z. IsPermutation (y ∷ ys) (z ∷ ys)) (eqb-true y x e) (IsPermutation-refl (y ∷ ys))
    by false e rest =
        elim (first_or_later y ys x c) [
          | inl is ↦ (let same : (y == x) ≡ true = eq-eqb y x is in absurd cc)
          | inr there ↦ IsPermutation-trans _ _ _ (IsPermutation-cons y ys (x ∷ without x ys) (rest there)) (IsPermutation-middle (y ∷ []) x (without x ys))
        ]

-- as many numbers, among those of the other list
permuted : (ns ms : List ℕ) → AreApart ns → ((k : ℕ) → Contains ns k → Contains ms k) → length ns ≡ length ms → IsPermutation ns ms
permuted [] ms apart among e = subst (IsPermutation []) (sym (nil_from_length ms (sym e))) (IsPermutation-refl [])
permuted (x ∷ ns) ms apart among e =
    let c = among x (here x ns x refl) in
    let l : length ms ≡ length (without x ms) + 1 = length-without x ms c in
    let rest = permuted ns (without x ms) (others_apart x ns apart)
    (λ k i. Contains-without x k ms (λ same. first_new x ns apart (subst (Contains ns) same i)) (among k (later x ns k i)))
    (omega arith)
    in
    IsPermutation-trans _ _ _ (IsPermutation-cons x ns (without x ms) rest) (IsPermutation-sym _ _ (taken_out x ms c))

-- ---- the edges of a graph

abbrev numbers : Graph → List ℕ
numbers g = chosen (λ (d : Edge). true) (entries g.edges)

abbrev Here : Graph → ℕ → Type 0
Here g e = IsSomeAnd (edge_at g e) (λ (d : Edge). true ≡ true)

numbers_walk : (g : Graph) → Walks (numbers g) (Here g)
numbers_walk g = Walks-chosen (λ (d : Edge). true) g.edges

-- what a function has for the numbers of a map's entries is what the entries have
read_back : (m : FinMap nat_cmp Edge) (f : ℕ → Edge) → ((k : ℕ) (d : Edge) → get m k ≡ Some d → f k ≡ d) → (n count : ℕ)
    → map f (chosen (λ (d : Edge). true) (entries_from m n count)) ≡ map (λ (p : ℕ × Edge). p.1) (entries_from m n count)
read_back m f same n zero = refl
read_back m f same n (suc count) = by (get m n) refl (entries_from m (n + 1) count) (read_back m f same (n + 1) count)
  where
    by : (o : Option Edge) → get m n ≡ o → (rest : List (ℕ × Edge)) → map f (chosen (λ (d : Edge). true) rest) ≡ map (λ (p : ℕ × Edge). p.1) rest
        → map f (chosen (λ (d : Edge). true) (numbered n o ++ rest)) ≡ map (λ (p : ℕ × Edge). p.1) (numbered n o ++ rest)
    by None e rest i = i
    by (Some d) e rest i = λ j. same n d e j ∷ i j

edges_read : (g : Graph) → IsNumbered g → (f : ℕ → Edge) → ((k : ℕ) (d : Edge) → edge_at g k ≡ Some d → f k ≡ d) → map f (numbers g) ≡ edges_of g
edges_read g n f same =
    let walk = entries-walk g.edges g.next_edge n.edges_below in
    subst (λ es. map f (chosen (λ (d : Edge). true) es) ≡ map (λ (p : ℕ × Edge). p.1) es) (sym walk) (read_back g.edges f same 0 g.next_edge)

module _ {g h : Graph} (w : AreAlike g h) where
  here_there : (e : ℕ) → Here g e → Here h (w.renumbered e)
  here_there e p =
      let d = some_and (edge_at g e) (λ (d : Edge). true ≡ true) p in
      and_some (edge_at h (w.renumbered e)) (λ (d : Edge). true ≡ true) d.0 (w.to e d.0 d.1) refl

  there_here : (k : ℕ) → Here h k → (e : ℕ) × Here g e × (w.renumbered e ≡ k)
  there_here k p =
      let d = some_and (edge_at h k) (λ (d : Edge). true ≡ true) p in
      let e = w.from k d.0 d.1 in
      (e.0, and_some (edge_at g e.0) (λ (d : Edge). true ≡ true) d.0 e.1 refl, e.2)

  numbers_there : Walks (map w.renumbered (numbers g)) (Here h)
  numbers_there =
      Walks-map w.renumbered (Here g) (Here h) (numbers g) (numbers_walk g) here_there there_here
      (λ a b i j e. w.apart a b (is_some (edge_at g a) (λ (d : Edge). true ≡ true) i) (is_some (edge_at g b) (λ (d : Edge). true ≡ true) j) e)

  numbers_permuted : IsPermutation (map w.renumbered (numbers g)) (numbers h)
  numbers_permuted =
      permuted (map w.renumbered (numbers g)) (numbers h) numbers_there.once (λ k i. ((numbers_walk h).each k).1 ((numbers_there.each k).0 i))
      (length-map (numbers g) w.renumbered ∙ as_many w (λ (d : Edge). true))

  -- the edge of a number, and any for a number of none
  abbrev edge_of : ℕ → Edge
  edge_of k = unwrap_or (edge_at h k) (record { source = 0; target = 0; label = []; mark = edge_marks.None })

  edge_is : (k : ℕ) (d : Edge) → edge_at h k ≡ Some d → edge_of k ≡ d
  edge_is k d i = ap (λ o. unwrap_or o (record { source = 0; target = 0; label = []; mark = edge_marks.None })) i

  edges_permuted : IsNumbered g → IsNumbered h → IsPermutation (edges_of h) (edges_of g)
  edges_permuted m n =
      let here = map-map edge_of w.renumbered (numbers g) ∙ edges_read g m (λ k. edge_of (w.renumbered k)) (λ k d i. edge_is (w.renumbered k) d (w.to k d i)) in
      let there = edges_read h n edge_of edge_is in
      IsPermutation-sym _ _ (subst (λ es. IsPermutation es (edges_of h)) here
      (subst (IsPermutation (map edge_of (map w.renumbered (numbers g)))) there (IsPermutation-map edge_of (map w.renumbered (numbers g)) (numbers h) numbers_permuted)))

-- a text of a graph is one of each graph that is alike
pub same_text : (g h : Graph) (text : List ℕ) → AreAlike g h → IsNumbered g → IsNumbered h → IsGraphText g text → IsGraphText h text
same_text g h text w m n t = record {
  edges = t.edges;
  same = IsPermutation-trans _ _ _ (edges_permuted w m n) t.same;
  sorted = t.sorted;
  is = subst (λ (ns : FinMap nat_cmp Node). text ≡ codes "[\n" ++ flat_map node_line (entries ns) ++ codes "|\n" ++ edge_lines 0 t.edges ++ codes "]\n") (sym w.nodes) t.is;
}
