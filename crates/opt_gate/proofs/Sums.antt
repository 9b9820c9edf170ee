-- Sums over a list of which one element changes.
use Rattle.std.proofs.Common.{◌≡◌, ℕ, zero, suc, ◌+◌, ◌≤◌, List, [], ◌∷◌, ◌++◌, set, refl, sym, ap, arith}
use mathlib.Core.Option.{some, some-injective, some-ne-none}
use lib.ListN.{get_elem?}
use Rattle.opt_gate.specs.inside.Totals.{total}

module _ {A : Type 0} (f : A → ℕ) where
  pub total_set : (vs : List A) (i : ℕ) (v w : A) → get_elem? vs i ≡ some v → total f (set vs i w) + f v ≡ total f vs + f w
  total_set [] i v w e = absurd (some-ne-none v (sym e))
  total_set (x ∷ xs) zero v w e = let same : f x ≡ f v = ap f (some-injective x v e) in omega arith
  total_set (x ∷ xs) (suc i) v w e = let h = total_set xs i v w e in omega arith

  pub total_same : (vs : List A) (i : ℕ) (v w : A) → get_elem? vs i ≡ some v → f w ≡ f v → total f (set vs i w) ≡ total f vs
  total_same vs i v w e same = let h = total_set vs i v w e in omega arith

  pub total_snoc : (vs : List A) (w : A) → total f (vs ++ w ∷ []) ≡ total f vs + f w
  total_snoc [] w = omega arith
  total_snoc (x ∷ xs) w = let h = total_snoc xs w in omega arith

  pub part_le : (vs : List A) (i : ℕ) (v : A) → get_elem? vs i ≡ some v → f v ≤ total f vs
  part_le [] i v e = absurd (some-ne-none v (sym e))
  part_le (x ∷ xs) zero v e = let same : f x ≡ f v = ap f (some-injective x v e) in omega arith
  part_le (x ∷ xs) (suc i) v e = let h = part_le xs i v e in omega arith

  pub total_le : (g : A → ℕ) (vs : List A) → ((i : ℕ) (v : A) → get_elem? vs i ≡ some v → f v ≤ g v) → total f vs ≤ total g vs
  total_le g [] h = omega arith
  total_le g (x ∷ xs) h = let a = h 0 x refl in let b = total_le g xs (λ i v e. h (suc i) v e) in omega arith

  pub total_none : (g : A → ℕ) (vs : List A) → total g vs ≡ 0 → ((i : ℕ) (v : A) → get_elem? vs i ≡ some v → g v ≡ 0 → f v ≡ 0) → total f vs ≡ 0
  total_none g [] e h = refl
  total_none g (x ∷ xs) e h = let a = h 0 x refl (omega arith) in let b = total_none g xs (omega arith) (λ i v at. h (suc i) v at) in omega arith

  -- where one element has all of g, and what has none of g has none of f, that one has all of f
  pub total_alone : (g : A → ℕ) (vs : List A) (i : ℕ) (v : A) → get_elem? vs i ≡ some v → total g vs ≡ g v → ((j : ℕ) (u : A) → get_elem? vs j ≡ some u → g u ≡ 0 → f u ≡ 0) → total f vs ≡ f v
  total_alone g [] i v e all h = absurd (some-ne-none v (sym e))
  total_alone g (x ∷ xs) zero v e all h = let same : f x ≡ f v = ap f (some-injective x v e) in let same' : g x ≡ g v = ap g (some-injective x v e) in
      let rest = total_none g xs (omega arith) (λ j u at. h (suc j) u at) in omega arith
  total_alone g (x ∷ xs) (suc i) v e all h = let le : g v ≤ total g xs = part_le' g xs i v e in
      let none = h 0 x refl (omega arith) in let rest = total_alone g xs i v e (omega arith) (λ j u at. h (suc j) u at) in omega arith
    where
      part_le' : (g : A → ℕ) (vs : List A) (i : ℕ) (v : A) → get_elem? vs i ≡ some v → g v ≤ total g vs
      part_le' g [] i v e = absurd (some-ne-none v (sym e))
      part_le' g (x ∷ xs) zero v e = let same : g x ≡ g v = ap g (some-injective x v e) in omega arith
      part_le' g (x ∷ xs) (suc i) v e = let h = part_le' g xs i v e in omega arith
