-- A walk over the numbers meets the entries of a map in order.
use Rattle.std.proofs.Common.{inl, inr, ◌≡◌, ℕ, zero, suc, ◌+◌, ◌<◌, ◌≤◌, true, false, cond, List, ◌++◌, refl, sym, ap, ◌∙◌, arith, append_assoc, append-nil}
use Rattle.std.specs.Prelude.{◌⊎◌, Option, Some, None, IsSome, ◌==◌}
use Rattle.std.specs.Ordering.{nat_cmp, is_lt}
use Rattle.std.specs.Cmp.{unsigned_tied}
use Rattle.std.specs.FinMap.Entries.{below_all, find, is_sorted}
use Rattle.std.specs.FinMap.{FinMap, get, entries, from_sorted, get-from_sorted, entries-from_sorted, same_map, nat_cmp-IsAntisymmetric}
use Rattle.std.specs.Cmp.{nat_cmp_total}
use Rattle.std.proofs.Math.Dec.{T}
use Rattle.std.proofs.lemmas.Grind.{common_steps}
use Rattle.gp_memory.proofs.Basics.{both_true, not_there as none_of}
use Rattle.gp_values.specs.Order.{numbered, entries_from}

apart : (q n : ℕ) → (q < n) ⊎ (n < q) → (q == n) ≡ false
apart q n (inl h) = grind (arith, common_steps)
apart q n (inr h) = grind (arith, common_steps)

-- one number more, at the end
pub entries_from-one_more : {X : Type 0} (m : FinMap nat_cmp X) (n count : ℕ) → entries_from m n (count + 1) ≡ entries_from m n count ++ numbered (n + count) (get m (n + count))
entries_from-one_more m n zero = let e : n + 0 ≡ n = omega arith in rw e (append-nil (numbered n (get m n)))
entries_from-one_more m n (suc count) =
    let e : suc count + 1 ≡ suc (count + 1) = omega arith in
    let k : n + suc count ≡ (n + 1) + count = omega arith in
    rw (e, k) (ap (λ rest. numbered n (get m n) ++ rest) (entries_from-one_more m (n + 1) count)
    ∙ sym (append_assoc (numbered n (get m n)) (entries_from m (n + 1) count) (numbered ((n + 1) + count) (get m ((n + 1) + count)))))

-- looking past a number, and at it
find-past : {X : Type 0} (q n : ℕ) (o : Option X) (rest : List (ℕ × X)) → (q == n) ≡ false → find nat_cmp q (numbered n o ++ rest) ≡ find nat_cmp q rest
find-past q n None rest h = refl
find-past q n (Some x) rest h = ap (λ b. cond b (Some x) (find nat_cmp q rest)) (unsigned_tied q n ∙ h)

find-here : {X : Type 0} (q n : ℕ) (o : Option X) (rest : List (ℕ × X)) → q ≡ n → find nat_cmp q rest ≡ None → find nat_cmp q (numbered n o ++ rest) ≡ o
find-here q n None rest e none = none
find-here q n (Some x) rest e none =
    let same : (q == n) ≡ true = grind (arith, common_steps) in
    ap (λ b. cond b (Some x) (find nat_cmp q rest)) (unsigned_tied q n ∙ same)

-- nothing below the first number is met
find-before : {X : Type 0} (m : FinMap nat_cmp X) (q n count : ℕ) → q < n → find nat_cmp q (entries_from m n count) ≡ None
find-before m q n zero h = refl
find-before m q n (suc count) h = find-past q n (get m n) (entries_from m (n + 1) count) (apart q n (inl h)) ∙ find-before m q (n + 1) count (omega arith)

at_or_past : (n q : ℕ) → n ≤ q → (q ≡ n) ⊎ (n < q)
at_or_past n q h = grind (arith, common_steps)

-- what stands at a number is met at it
find-within : {X : Type 0} (m : FinMap nat_cmp X) (q n count : ℕ) → n ≤ q → (n + count ≤ q → get m q ≡ None) → find nat_cmp q (entries_from m n count) ≡ get m q
find-within m q n zero h past = sym (past (omega arith))
find-within m q n (suc count) h past =
    elim (at_or_past n q h) [
      | inl e ↦ find-here q n (get m n) (entries_from m (n + 1) count) e (find-before m q (n + 1) count (omega arith)) ∙ ap (get m) (sym e)
      | inr b ↦ find-past q n (get m n) (entries_from m (n + 1) count) (apart q n (inr b)) ∙ find-within m q (n + 1) count (omega arith) (λ k. past (omega arith))
    ]

above_one : {X : Type 0} (q n : ℕ) (o : Option X) (rest : List (ℕ × X)) → q < n → T (below_all nat_cmp q rest) → T (below_all nat_cmp q (numbered n o ++ rest))
above_one q n None rest h all = all
above_one q n (Some x) rest h all = let e : is_lt (nat_cmp q n) ≡ true = grind (arith, common_steps) in rw e all

above : {X : Type 0} (m : FinMap nat_cmp X) (q n count : ℕ) → q < n → T (below_all nat_cmp q (entries_from m n count))
above m q n zero h = tt
above m q n (suc count) h = above_one q n (get m n) (entries_from m (n + 1) count) h (above m q (n + 1) count (omega arith))

in_order_one : {X : Type 0} (n : ℕ) (o : Option X) (rest : List (ℕ × X)) → T (below_all nat_cmp n rest) → T (is_sorted nat_cmp rest) → T (is_sorted nat_cmp (numbered n o ++ rest))
in_order_one n None rest all sorted = sorted
in_order_one n (Some x) rest all sorted = both_true _ _ all sorted

in_order : {X : Type 0} (m : FinMap nat_cmp X) (n count : ℕ) → T (is_sorted nat_cmp (entries_from m n count))
in_order m n zero = tt
in_order m n (suc count) = in_order_one n (get m n) (entries_from m (n + 1) count) (above m n (n + 1) count (omega arith)) (in_order m (n + 1) count)

-- a map with no entry from this number on has the entries that the walk to it meets
pub entries-walk : {X : Type 0} (m : FinMap nat_cmp X) (count : ℕ) → ((q : ℕ) → IsSome (get m q) → q < count) → entries m ≡ entries_from m 0 count
entries-walk m count below =
    ap entries (same_map nat_cmp_total nat_cmp-IsAntisymmetric m (from_sorted (entries_from m 0 count))
    (λ q. sym (get-from_sorted nat_cmp (entries_from m 0 count) q (in_order m 0 count)
    ∙ find-within m q 0 count (omega arith) (λ h. none_of (get m q) (λ some. let b : q < count = below q some in omega arith)))))
    ∙ entries-from_sorted nat_cmp (entries_from m 0 count) (in_order m 0 count)
