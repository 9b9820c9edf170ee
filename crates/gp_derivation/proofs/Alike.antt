-- Graphs that are alike have as many edges that pass a test.
use Rattle.std.proofs.Common.{◌≡◌, ℕ, zero, suc, ◌+◌, ◌<◌, ◌==◌, Bool, true, false, cond, if◌then◌else◌, List, [], ◌∷◌, map, length, slice_index, IsSomeAnd, Contains, refl, sym, ap, ◌∙◌, arith}
use Rattle.std.specs.Prelude.{◌&&◌, ◌||◌, count_by}
use Rattle.std.specs.List.{list_any}
use Rattle.std.specs.FinMap.{entries}
use Rattle.std.proofs.lemmas.List.{get_or_default, get_or-map, length-map}
use Rattle.std.proofs.lemmas.List.Elements.{Contains-get_or}
use Rattle.std.proofs.lemmas.List.Sums.{sum_by-cons}
use Rattle.gp_memory.proofs.Basics.{and_is_some as is_some, and_some, some_and}
use Rattle.gp_values.specs.declared.atom.Atom.{Atom}
use Rattle.gp_values.specs.declared.marks.EdgeMark.{EdgeMark}
use Rattle.gp_values.specs.Apart.{AreApart}
use Rattle.gp_values.specs.Atoms.{same_list}
use Rattle.gp_values.specs.Graph.{Graph, Edge, edge_at, in_degree, out_degree}
use Rattle.gp_syntax.specs.Expression.{MarkPattern}
use Rattle.gp_syntax.specs.Truth.{has_edge, has_mark, has_edge_with}
use Rattle.gp_graph.specs.Walks.{Walks}
use Rattle.gp_graph.proofs.Numbers.{same_length}
use Rattle.gp_graph.proofs.Degrees.{chosen, one_more, Walks-chosen}
use Rattle.gp_derivation.specs.Upgrade.{AreAlike}

-- ---- what stands in an option

-- ---- a walk whose numbers are others

module _ (f : ℕ → ℕ) (P Q : ℕ → Type 0) (ns : List ℕ) (w : Walks ns P) where
  at : (i : ℕ) → i < length ns → slice_index (map f ns) i ≡ f (slice_index ns i)
  at i l = get_or-map f ns i 0 0 l

  holds_at : (i : ℕ) → i < length ns → P (slice_index ns i)
  holds_at i l = (w.each (slice_index ns i)).0 (Contains-get_or ns i 0 l)

  length_same : length (map f ns) ≡ length ns
  length_same = length-map ns f

  pub Walks-map : ((e : ℕ) → P e → Q (f e)) → ((k : ℕ) → Q k → (e : ℕ) × P e × (f e ≡ k)) → ((a b : ℕ) → P a → P b → f a ≡ f b → a ≡ b) → Walks (map f ns) Q
  Walks-map to from apart = record { once = once; each = λ k. (holds k, stands k) }
    where
      once : AreApart (map f ns)
      once i j less l e =
          let n = length_same in
          w.once i j less (omega arith)
          (apart (slice_index ns i) (slice_index ns j) (holds_at i (omega arith)) (holds_at j (omega arith)) (sym (at i (omega arith)) ∙ e ∙ at j (omega arith)))

      holds : (k : ℕ) → Contains (map f ns) k → Q k
      holds k c =
          let n = length_same in
          let l : c.0 < length (map f ns) = c.1 in
          let e : f (slice_index ns c.0) ≡ k = sym (at c.0 (omega arith)) ∙ get_or_default (map f ns) c.0 0 k l ∙ c.2 in
          rw (← e) (to (slice_index ns c.0) (holds_at c.0 (omega arith)))

      stands : (k : ℕ) → Q k → Contains (map f ns) k
      stands k q =
          let e = from k q in
          let c = (w.each e.0).1 e.1 in
          let n = length_same in
          let l : c.0 < length ns = c.1 in
          (c.0, omega arith, get_or-map f ns c.0 e.0 k l ∙ ap f c.2 ∙ e.2)

-- ---- as many

module _ {g h : Graph} (w : AreAlike g h) (q : Edge → Bool) where
  abbrev Passes : Graph → ℕ → Type 0
  Passes k e = IsSomeAnd (edge_at k e) (λ d. q d ≡ true)

  passes_there : (e : ℕ) → Passes g e → Passes h (w.renumbered e)
  passes_there e p =
      let d = some_and (edge_at g e) (λ d. q d ≡ true) p in
      and_some (edge_at h (w.renumbered e)) (λ d. q d ≡ true) d.0 (w.to e d.0 d.1) d.2

  passes_here : (k : ℕ) → Passes h k → (e : ℕ) × Passes g e × (w.renumbered e ≡ k)
  passes_here k p =
      let d = some_and (edge_at h k) (λ d. q d ≡ true) p in
      let e = w.from k d.0 d.1 in
      (e.0, and_some (edge_at g e.0) (λ d. q d ≡ true) d.0 e.1 d.2, e.2)

  pub as_many : length (chosen q (entries g.edges)) ≡ length (chosen q (entries h.edges))
  as_many =
      sym (length-map (chosen q (entries g.edges)) w.renumbered)
      ∙ same_length (map w.renumbered (chosen q (entries g.edges))) (chosen q (entries h.edges)) (Passes h)
      (Walks-map w.renumbered (Passes g) (Passes h) (chosen q (entries g.edges)) (Walks-chosen q g.edges) passes_there passes_here
      (λ a b i j e. w.apart a b (is_some (edge_at g a) (λ d. q d ≡ true) i) (is_some (edge_at g b) (λ d. q d ≡ true) j) e))
      (Walks-chosen q h.edges)

length-chosen : {X : Type 0} (q : X → Bool) (es : List (ℕ × X)) → length (chosen q es) ≡ count_by (λ e. q e.1) es
length-chosen q [] = refl
length-chosen q (e ∷ es) =
    one_more (q e.1) e.0 (chosen q es) ∙ ap (λ m. cond (q e.1) 1 0 + m) (length-chosen q es) ∙ sym (sum_by-cons (λ d. cond (q d.1) 1 0) e es)

abbrev some_number : ℕ → Bool
some_number zero = false
some_number (suc n) = true

any_chosen : {X : Type 0} (q : X → Bool) (es : List (ℕ × X)) → list_any (λ e. q e.1) es ≡ some_number (length (chosen q es))
any_chosen q [] = refl
any_chosen q (e ∷ es) = by (q e.1) (any_chosen q es)
  where
    by : (b : Bool) → list_any (λ d. q d.1) es ≡ some_number (length (chosen q es)) → (b || list_any (λ d. q d.1) es) ≡ some_number (length (if b then e.0 ∷ chosen q es else chosen q es))
    by true i = refl
    by false i = i

pub count_alike : (g h : Graph) (q : Edge → Bool) → AreAlike g h → count_by (λ (e : ℕ × Edge). q e.1) (entries g.edges) ≡ count_by (λ (e : ℕ × Edge). q e.1) (entries h.edges)
count_alike g h q w = sym (length-chosen q (entries g.edges)) ∙ as_many w q ∙ length-chosen q (entries h.edges)

pub any_alike : (g h : Graph) (q : Edge → Bool) → AreAlike g h → list_any (λ (e : ℕ × Edge). q e.1) (entries g.edges) ≡ list_any (λ (e : ℕ × Edge). q e.1) (entries h.edges)
any_alike g h q w = any_chosen q (entries g.edges) ∙ ap some_number (as_many w q) ∙ sym (any_chosen q (entries h.edges))

-- ---- degrees and edges between

pub in_degree_alike : (g h : Graph) → AreAlike g h → (v : ℕ) → in_degree g v ≡ in_degree h v
in_degree_alike g h w v = count_alike g h (λ (d : Edge). d.target == v) w

pub out_degree_alike : (g h : Graph) → AreAlike g h → (v : ℕ) → out_degree g v ≡ out_degree h v
out_degree_alike g h w v = count_alike g h (λ (d : Edge). d.source == v) w

pub has_edge_alike : (g h : Graph) → AreAlike g h → (a b : ℕ) → has_edge g a b ≡ has_edge h a b
has_edge_alike g h w a b = any_alike g h (λ (d : Edge). d.source == a && d.target == b) w

pub has_edge_with_alike : (g h : Graph) → AreAlike g h → (a b : ℕ) (v : List Atom) (mark : MarkPattern EdgeMark) → has_edge_with g a b v mark ≡ has_edge_with h a b v mark
has_edge_with_alike g h w a b v mark = any_alike g h (λ (d : Edge). (d.source == a && d.target == b) && (same_list d.label v && has_mark mark d.mark)) w
