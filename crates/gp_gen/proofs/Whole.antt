-- Hosts have their nodes and edges.
use Rattle.std.proofs.Common.{◌≡◌, ℕ, zero, suc, ◌+◌, ◌*◌, ◌-◌, ◌<◌, ◌≤◌, ◌%◌, Bool, true, false, List, [], ◌∷◌, length, map, refl, sym, ap, ap₂, ◌∙◌, arith}
use Rattle.std.proofs.Math.Nat.{mod-lt, mul-le-mul_right}
use Rattle.std.proofs.lemmas.List.{length-append}
use Rattle.std.specs.Prelude.{All, flat_map, if◌then◌else◌, ◌==◌}
use Rattle.std.specs.List.{AllByRecursion, range_with_len, zip}
use Rattle.gp_memory.proofs.Basics.{all_append as each_of_both, maps_twice as map_of_map}
use Rattle.rand_core.specs.Steps.{first_words}
use Rattle.rand_pcg.specs.Lcg.{Lcg}
use Rattle.rand_pcg.specs.Pcg.{pcg32}
use Rattle.gp_gen.specs.declared.kind.Kind.TheVariants.{Closure, Colour, Tree}
use Rattle.gp_gen.specs.Host.{HostNode, HostEdge, seeded, numbers_below, plain_node, ring_edge, grid_node, row_pairs, column_pairs, grid_pairs, plain_edge, grid_edge}
use Rattle.gp_gen.specs.Laws.{GoesBelow, IsHost, HostsAreWhole}
use Rattle.gp_gen.proofs.Grids.{count_below, rows_counted, columns_of_rows_counted}

-- ---- lists

all_of_each : {A : Type 0} (P : A → Type 0) (xs : List A) → AllByRecursion P xs → All P xs
all_of_each P [] h i d lt = absurd (omega arith)
all_of_each P (x ∷ xs) h zero d lt = h.0
all_of_each P (x ∷ xs) h (suc i) d lt = all_of_each P xs h.1 i d (omega arith)

each_number : (P : ℕ → Type 0) (a n : ℕ) → ((k : ℕ) → k < a + n → P k) → AllByRecursion P (range_with_len a n)
each_number P a zero h = tt
each_number P a (suc n) h = (h a (omega arith), each_number P (a + 1) n (λ k lt. h k (omega arith)))

each_mapped : {A B : Type 0} (P : B → Type 0) (f : A → B) (xs : List A) → AllByRecursion (λ x. P (f x)) xs → AllByRecursion P (map f xs)
each_mapped P f [] h = tt
each_mapped P f (x ∷ xs) h = (h.0, each_mapped P f xs h.1)

each_in_rows : {A B : Type 0} (P : B → Type 0) (row : A → List B) (xs : List A) → AllByRecursion (λ x. AllByRecursion P (row x)) xs → AllByRecursion P (flat_map row xs)
each_in_rows P row [] h = tt
each_in_rows P row (x ∷ xs) h = each_of_both P (row x) (flat_map row xs) h.0 (each_in_rows P row xs h.1)

same_numbers : (f : ℕ → ℕ) → ((k : ℕ) → f k ≡ k) → (a n : ℕ) → map f (range_with_len a n) ≡ range_with_len a n
same_numbers f same a zero = refl
same_numbers f same a (suc n) = ap₂ (λ k l. k ∷ l) (same a) (same_numbers f same (a + 1) n)

-- ---- edges by words

module _ {A : Type 0} (edge : A × ℕ → HostEdge) where
  length_from : (xs : List A) (s : Lcg) → length (map edge (zip xs (first_words pcg32 (length xs) s))) ≡ length xs
  unfolding first_words
  length_from [] s = refl
  length_from (x ∷ xs) s = ap suc (length_from xs (pcg32 s).1)

  each_from : (P : HostEdge → Type 0) (Q : A → Type 0) → ((x : A) (word : ℕ) → Q x → P (edge (x, word))) → (xs : List A) (s : Lcg) → AllByRecursion Q xs → AllByRecursion P (map edge (zip xs (first_words pcg32 (length xs) s)))
  unfolding first_words
  each_from P Q f [] s h = tt
  each_from P Q f (x ∷ xs) s h = (f x (pcg32 s).0 h.0, each_from P Q f xs (pcg32 s).1 h.1)

-- ---- closure

ring_ends : (n i word : ℕ) → 1 ≤ n → i < n → GoesBelow n (ring_edge n (i, word))
ring_ends n i word some lt = record { source = lt; target = mod-lt (i + 1) some }

whole_ring : (n seed : ℕ) → 1 ≤ n → IsHost Closure n seed
whole_ring n seed some = record {
  numbers = map_of_map (λ (x : HostNode). x.number) plain_node (numbers_below n) ∙ same_numbers (λ k. k) (λ k. refl) 0 n;
  edges = length_from (ring_edge n) (numbers_below n) (seeded seed) ∙ sym (count_below n ∙ omega arith);
  ends = all_of_each (GoesBelow n) _ (each_from (ring_edge n) (GoesBelow n) (λ i. i < n) (λ i word lt. ring_ends n i word some lt) (numbers_below n) (seeded seed) (each_number (λ i. i < n) 0 n (λ k lt. omega arith)));
}

-- ---- colour

pub record PairBelow (count : ℕ) (p : ℕ × ℕ) : Type 0 where
  pub small : p.0 < count
  pub great : p.1 < count

-- a column of a row below n is a node
in_grid : (n r c : ℕ) → r < n → c < n → r * n + c < n * n
in_grid n r c low side = let below : suc r ≤ n = omega arith in omega (arith, mul-le-mul_right {m = suc r} {n = n} n below)

row_ends : (n r : ℕ) → r < n → AllByRecursion (PairBelow (n * n)) (row_pairs n r)
row_ends n r low =
    each_mapped (PairBelow (n * n)) (λ c. (r * n + c, r * n + c + 1)) (numbers_below (n - 1))
    (each_number (λ c. PairBelow (n * n) (r * n + c, r * n + c + 1)) 0 (n - 1) (λ c lt. record {
      small = in_grid n r c low (omega arith);
      great = let here : c + 1 < n = omega arith in omega (arith, in_grid n r (c + 1) low here);
    }))

column_ends : (n r : ℕ) → r + 1 < n → AllByRecursion (PairBelow (n * n)) (column_pairs n r)
column_ends n r low =
    each_mapped (PairBelow (n * n)) (λ c. (r * n + c, (r + 1) * n + c)) (numbers_below n)
    (each_number (λ c. PairBelow (n * n) (r * n + c, (r + 1) * n + c)) 0 n (λ c lt. record {
      small = in_grid n r c (omega arith) (omega arith);
      great = in_grid n (r + 1) c low (omega arith);
    }))

grid_ends : (n : ℕ) → AllByRecursion (PairBelow (n * n)) (grid_pairs n)
grid_ends n =
    each_of_both (PairBelow (n * n)) (flat_map (row_pairs n) (numbers_below n)) (flat_map (column_pairs n) (numbers_below (n - 1)))
    (each_in_rows (PairBelow (n * n)) (row_pairs n) (numbers_below n) (each_number (λ r. AllByRecursion (PairBelow (n * n)) (row_pairs n r)) 0 n (λ r lt. row_ends n r (omega arith))))
    (each_in_rows (PairBelow (n * n)) (column_pairs n) (numbers_below (n - 1)) (each_number (λ r. AllByRecursion (PairBelow (n * n)) (column_pairs n r)) 0 (n - 1) (λ r lt. column_ends n r (omega arith))))

edge_ends : (count : ℕ) (p : ℕ × ℕ) (word : ℕ) → PairBelow count p → GoesBelow count (grid_edge (p, word))
edge_ends count p word h = go (word % 2 == 1)
  where
    go : (b : Bool) → GoesBelow count (if b then plain_edge p.1 p.0 else plain_edge p.0 p.1)
    go true = record { source = h.great; target = h.small }
    go false = record { source = h.small; target = h.great }

pairs_counted : (n : ℕ) → length (grid_pairs n) ≡ 2 * (n * (n - 1))
pairs_counted n = omega (arith, length-append (flat_map (row_pairs n) (numbers_below n)) (flat_map (column_pairs n) (numbers_below (n - 1))), rows_counted n n, columns_of_rows_counted n 0 (n - 1))

whole_grid : (n seed : ℕ) → IsHost Colour n seed
whole_grid n seed = record {
  numbers = map_of_map (λ (x : HostNode). x.number) grid_node (numbers_below (n * n)) ∙ same_numbers (λ k. k) (λ k. refl) 0 (n * n);
  edges = length_from grid_edge (grid_pairs n) (seeded seed) ∙ pairs_counted n;
  ends = all_of_each (GoesBelow (n * n)) _ (each_from grid_edge (GoesBelow (n * n)) (PairBelow (n * n)) (edge_ends (n * n)) (grid_pairs n) (seeded seed) (grid_ends n));
}

pub whole : HostsAreWhole
whole Closure n seed size = whole_ring n seed size.least
whole Colour n seed size = whole_grid n seed
whole Tree n seed size = record { numbers = refl; edges = refl; ends = all_of_each (GoesBelow 1) [] tt }
