-- The neighbours in the first columns of a row, and in the first rows of a grid.
use Rattle.std.proofs.Common.{◌≡◌, ℕ, zero, suc, ◌+◌, ◌*◌, ◌-◌, ◌%◌, ◌==◌, List, [], ◌∷◌, ◌++◌, length, map, sym, ap, ◌∙◌, append-nil, arith}
use Rattle.std.proofs.lemmas.List.FromFn.{length-range_with_len, map-range_with_len_more, length-map-range_with_len}
use Rattle.std.proofs.lemmas.List.{length-append}
use Rattle.std.proofs.lemmas.Grind.{flat_map-append}
use Rattle.std.specs.Prelude.{flat_map, if◌then◌else◌}
use Rattle.std.specs.List.{range_with_len}
use Rattle.gp_gen.specs.Host.{numbers_below, row_pairs, column_pairs, plain_edge, grid_edge}

-- ---- within a row

abbrev pub first_row_pairs : ℕ → ℕ → ℕ → List (ℕ × ℕ)
first_row_pairs n r columns = map (λ c. (r * n + c, r * n + c + 1)) (numbers_below columns)

abbrev pub first_column_pairs : ℕ → ℕ → ℕ → List (ℕ × ℕ)
first_column_pairs n r columns = map (λ c. (r * n + c, (r + 1) * n + c)) (numbers_below columns)

-- one column more
pub column_more : {A : Type 0} (pair : ℕ → A) (c : ℕ) → map pair (numbers_below (c + 1)) ≡ map pair (numbers_below c) ++ pair c ∷ []
column_more pair c = map-range_with_len_more pair 0 c c (omega arith)

pub columns_counted : {A : Type 0} (pair : ℕ → A) (first c : ℕ) → first + c ≡ first + length (map pair (numbers_below c))
columns_counted pair first c = ap (λ k. first + k) (sym (length-map-range_with_len pair 0 c))

-- ---- numbers, and rows

more_from : (a n : ℕ) → range_with_len a (suc n) ≡ range_with_len a n ++ (a + n) ∷ []
more_from a zero = let e : a ≡ a + zero = omega arith in ap (λ k. k ∷ []) e
more_from a (suc n) = let e : (a + 1) + n ≡ a + suc n = omega arith in ap (λ l. a ∷ l) (more_from (a + 1) n ∙ ap (λ k. range_with_len (a + 1) n ++ k ∷ []) e)

pub number_more : (n : ℕ) → numbers_below (n + 1) ≡ numbers_below n ++ n ∷ []
number_more n =
    let more : n + 1 ≡ suc n = omega arith in
    let from : 0 + n ≡ n = omega arith in
    ap numbers_below more ∙ more_from 0 n ∙ ap (λ k. numbers_below n ++ k ∷ []) from

pub count_below : (n : ℕ) → n ≡ 0 + length (numbers_below n)
count_below n = omega (arith, length-range_with_len 0 n)

-- one row more
pub row_more : {A : Type 0} (row : ℕ → List A) (r : ℕ) → flat_map row (numbers_below (r + 1)) ≡ flat_map row (numbers_below r) ++ row r
row_more row r = ap (flat_map row) (number_more r) ∙ flat_map-append row (numbers_below r) (r ∷ []) ∙ ap (λ l. flat_map row (numbers_below r) ++ l) (append-nil (row r))

-- rows of the same length
rows_from : {A : Type 0} (row : ℕ → List A) (width : ℕ) → ((r : ℕ) → length (row r) ≡ width) → (a rows : ℕ) → length (flat_map row (range_with_len a rows)) ≡ rows * width
rows_from row width each a zero = omega arith
rows_from row width each a (suc rows) =
    omega (arith, length-append (row a) (flat_map row (range_with_len (a + 1) rows)), each a, rows_from row width each (a + 1) rows)

pub rows_counted : (n rows : ℕ) → rows * (n - 1) ≡ 0 + length (flat_map (row_pairs n) (numbers_below rows))
rows_counted n rows = sym (rows_from (row_pairs n) (n - 1) (λ r. length-map-range_with_len _ 0 (n - 1)) 0 rows) ∙ omega arith

pub columns_of_rows_counted : (n first rows : ℕ) → first + rows * n ≡ first + length (flat_map (column_pairs n) (numbers_below rows))
columns_of_rows_counted n first rows = ap (λ k. first + k) (sym (rows_from (column_pairs n) n (λ r. length-map-range_with_len _ 0 n) 0 rows))

-- ---- the direction of an edge

pub turned : (small great word : ℕ) → word % 2 ≡ 1 → plain_edge great small ≡ grid_edge ((small, great), word)
turned small great word odd = sym (ap (λ k. if k == 1 then plain_edge great small else plain_edge small great) odd)

pub straight : (small great word : ℕ) → (word % 2 ≡ 1 → ⊥) → plain_edge small great ≡ grid_edge ((small, great), word)
straight small great word even = grind arith
