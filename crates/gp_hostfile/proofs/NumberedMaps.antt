-- Maps from numbers by their entries in order.
use Rattle.std.proofs.Common.{◌≡◌, ℕ, zero, suc, ◌+◌, ◌^◌, ◌<◌, ◌≤◌, Bool, true, false, cond, List, [], ◌∷◌, ◌++◌, map, Option, Some, None, refl, sym, ap, subst, ◌∙◌, arith}
use Rattle.std.specs.Prelude.{slice_get, option_map, ◌==◌}
use Rattle.std.specs.Ordering.{nat_cmp, is_lt}
use Rattle.std.specs.Cmp.{unsigned_tied}
use Rattle.std.specs.FinMap.Entries.{below_all, find, is_sorted}
use Rattle.std.specs.FinMap.{FinMap, get, entries, get-entries, from_sorted, get-from_sorted}
use Rattle.std.proofs.Math.Dec.{T}
use Rattle.std.proofs.lemmas.Bool.{eq-eqb, ne_eqb}
use Rattle.std.proofs.lemmas.Bool.Decides.{Decides-eqb}
use Rattle.std.proofs.lemmas.Grind.{common_steps}
use Rattle.gp_memory.proofs.Basics.{both_true}
use Rattle.gp_values.specs.Order.{numbered, entries_from}
use Rattle.gp_hostfile.proofs.NumberNames.{RisesFrom}

abbrev pub numbers_of : {X : Type 0} → List (ℕ × X) → List ℕ
numbers_of es = map (λ e. e.0) es

-- ---- the numbers of a map rise

rises_more : (low high : ℕ) (ks : List ℕ) → low ≤ high → RisesFrom high ks → RisesFrom low ks
rises_more low high [] le r = tt
rises_more low high (k ∷ ks) le r = let a = r.0 in (omega arith, r.1, r.2)

pub walk_rises : {X : Type 0} (m : FinMap nat_cmp X) (n count : ℕ) → n + count ≤ 10 ^ 64 → RisesFrom n (numbers_of (entries_from m n count))
walk_rises m n zero small = tt
walk_rises {X} m n (suc count) small = go (get m n) (walk_rises m (n + 1) count (omega arith))
  where
    go : (o : Option X) → RisesFrom (n + 1) (numbers_of (entries_from m (n + 1) count)) → RisesFrom n (numbers_of (numbered n o ++ entries_from m (n + 1) count))
    go None r = rises_more n (n + 1) _ (omega arith) r
    go (Some x) r = (omega arith, omega arith, r)

-- ---- what stands in a map stands among its entries

placed : {X : Type 0} (q : ℕ) (x : X) (es : List (ℕ × X)) → find nat_cmp q es ≡ Some x → (i : ℕ) × (slice_get es i ≡ Some (q, x))
placed q x [] h = absurd cc
placed {X} q x ((k, y) ∷ es) h = go (q == k) refl (rw unsigned_tied at h) (placed q x es)
  where
    go : (b : Bool) → (q == k) ≡ b → cond (q == k) (Some y) (find nat_cmp q es) ≡ Some x → (find nat_cmp q es ≡ Some x → (i : ℕ) × (slice_get es i ≡ Some (q, x))) → (i : ℕ) × (slice_get ((k, y) ∷ es) i ≡ Some (q, x))
    go true e h below = let same : q ≡ k = (Decides-eqb q k).0 e in let value : cond true (Some y) (find nat_cmp q es) ≡ Some x = rw e at h in (0, cc)
    go false e h below = let deeper : find nat_cmp q es ≡ Some x = rw e at h in let b = below deeper in (suc b.0, b.1)

pub place_of_entry : {X : Type 0} (m : FinMap nat_cmp X) (q : ℕ) (x : X) → get m q ≡ Some x → (i : ℕ) × (slice_get (entries m) i ≡ Some (q, x))
place_of_entry m q x h = placed q x (entries m) (sym (get-entries m q) ∙ h)

pub number_there : {X : Type 0} (es : List (ℕ × X)) (i q : ℕ) (x : X) → slice_get es i ≡ Some (q, x) → slice_get (numbers_of es) i ≡ Some q
number_there [] i q x h = absurd cc
number_there {X} ((k, y) ∷ es) zero q x h = ap (option_map (λ (e : ℕ × X). e.0)) h
number_there ((k, y) ∷ es) (suc i) q x h = number_there es i q x h

-- ---- a list as a map from its places

abbrev pub numbered_on : {X : Type 0} → ℕ → List X → List (ℕ × X)
numbered_on n [] = []
numbered_on n (x ∷ xs) = (n, x) ∷ numbered_on (n + 1) xs

above : {X : Type 0} (q n : ℕ) (xs : List X) → q < n → T (below_all nat_cmp q (numbered_on n xs))
above q n [] lt = tt
above q n (x ∷ xs) lt = let e : is_lt (nat_cmp q n) ≡ true = grind (arith, common_steps) in rw e (above q (n + 1) xs (omega arith))

in_order : {X : Type 0} (n : ℕ) (xs : List X) → T (is_sorted nat_cmp (numbered_on n xs))
in_order n [] = tt
in_order n (x ∷ xs) = both_true _ _ (above n (n + 1) xs (omega arith)) (in_order (n + 1) xs)

found_on : {X : Type 0} (n i : ℕ) (xs : List X) → find nat_cmp (n + i) (numbered_on n xs) ≡ slice_get xs i
found_on n i [] = refl
found_on n zero (x ∷ xs) = let e : ((n + 0) == n) ≡ true = eq-eqb (n + 0) n (omega arith) in ap (λ b. cond b (Some x) (find nat_cmp (n + 0) (numbered_on (n + 1) xs))) (unsigned_tied (n + 0) n ∙ e)
found_on n (suc i) (x ∷ xs) =
    let e : ((n + suc i) == n) ≡ false = ne_eqb (n + suc i) n (λ q. omega arith) in
    let k : n + suc i ≡ (n + 1) + i = omega arith in
    ap (λ b. cond b (Some x) (find nat_cmp (n + suc i) (numbered_on (n + 1) xs))) (unsigned_tied (n + suc i) n ∙ e) ∙ ap (λ q. find nat_cmp q (numbered_on (n + 1) xs)) k ∙ found_on (n + 1) i xs

abbrev pub by_places : {X : Type 0} → List X → FinMap nat_cmp X
by_places xs = from_sorted (numbered_on 0 xs)

pub get-by_places : {X : Type 0} (xs : List X) (q : ℕ) → get (by_places xs) q ≡ slice_get xs q
get-by_places xs q = let e : 0 + q ≡ q = omega arith in get-from_sorted nat_cmp (numbered_on 0 xs) q (in_order 0 xs) ∙ subst (λ k. find nat_cmp k (numbered_on 0 xs) ≡ slice_get xs q) e (found_on 0 q xs)
