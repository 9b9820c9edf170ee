-- Sorted lists: each list has one, and only one, if what ties is equal.
use Rattle.std.proofs.Common.{◌≡◌, ℕ, zero, suc, ◌+◌, ◌<◌, Bool, true, false, List, [], ◌∷◌, length, get_or, map, refl, sym, ap, subst, arith}
use Rattle.std.specs.Prelude.{if◌then◌else◌, IsPermutation, sum_by}
use Rattle.std.specs.Cmp.{IsStrictWeakOrder}
use Rattle.std.specs.List.Sorted.{IsSortedBy}
use Rattle.std.proofs.lemmas.List.Sums.{sum_by-cons}
use Rattle.std.proofs.lemmas.List.Sorted.{sorted_far, IsPermutation-refl, IsPermutation-cons, IsPermutation-middle, IsPermutation-trans}

module _ {X : Type 0} (lt : X → X → Bool) where
  -- none of the list is less than x
  abbrev pub NoneBelow : X → List X → Type 0
  NoneBelow x [] = Unit {0}
  NoneBelow x (z ∷ zs) = (lt z x ≡ false) × NoneBelow x zs

  abbrev pub Rises : List X → Type 0
  Rises [] = Unit {0}
  Rises (x ∷ xs) = NoneBelow x xs × Rises xs

  none_below_from : (x : X) (xs : List X) → ((j : ℕ) (d : X) → j < length xs → lt (get_or xs j d) x ≡ false) → NoneBelow x xs
  none_below_from x [] f = tt
  none_below_from x (z ∷ zs) f = (f 0 x (omega arith), none_below_from x zs (λ j d h. f (suc j) d (omega arith)))

  pub sorted_from : (xs : List X) → Rises xs → IsSortedBy lt xs
  sorted_from [] r k d a b = absurd (omega arith)
  sorted_from (x ∷ []) r k d a b = absurd (omega arith)
  sorted_from (x ∷ y ∷ ys) r zero d a b = r.0.0
  sorted_from (x ∷ y ∷ ys) r (suc k) d a b =
      let e : suc (k + 1) ≡ suc k + 1 = omega arith in
      subst (λ j. lt (get_or (x ∷ y ∷ ys) j d) (get_or (y ∷ ys) k d) ≡ false) e (sorted_from (y ∷ ys) r.1 k d (omega arith) (omega arith))

  -- a value, put into a sorted list
  abbrev put : X → List X → List X
  put x [] = x ∷ []
  put x (z ∷ zs) = if lt z x then z ∷ put x zs else x ∷ z ∷ zs

  abbrev pub in_order : List X → List X
  in_order [] = []
  in_order (x ∷ xs) = put x (in_order xs)

  put_moves : (x : X) (xs : List X) → IsPermutation (x ∷ xs) (put x xs)
  put_moves x [] = IsPermutation-refl (x ∷ [])
  put_moves x (z ∷ zs) = by (lt z x) (put_moves x zs)
    where
      by : (b : Bool) → IsPermutation (x ∷ zs) (put x zs) → IsPermutation (x ∷ z ∷ zs) (if b then z ∷ put x zs else x ∷ z ∷ zs)
      by true h = IsPermutation-trans _ _ _ (IsPermutation-middle (x ∷ []) z zs) (IsPermutation-cons z _ _ h)
      by false h = IsPermutation-refl (x ∷ z ∷ zs)

  pub in_order_moves : (xs : List X) → IsPermutation xs (in_order xs)
  in_order_moves [] = IsPermutation-refl []
  in_order_moves (x ∷ xs) = IsPermutation-trans _ _ _ (IsPermutation-cons x xs (in_order xs) (in_order_moves xs)) (put_moves x (in_order xs))

  none_below_put : (y x : X) (xs : List X) → lt x y ≡ false → NoneBelow y xs → NoneBelow y (put x xs)
  none_below_put y x [] h n = (h, tt)
  none_below_put y x (z ∷ zs) h n = by (lt z x) (none_below_put y x zs h n.1)
    where
      by : (b : Bool) → NoneBelow y (put x zs) → NoneBelow y (if b then z ∷ put x zs else x ∷ z ∷ zs)
      by true m = (n.0, m)
      by false m = (h, n)

  module _ (o : IsStrictWeakOrder lt) where
    pub rises_from : (xs : List X) → IsSortedBy lt xs → Rises xs
    rises_from [] s = tt
    rises_from (x ∷ xs) s = (
      none_below_from x xs (λ j d h. sorted_far lt o (x ∷ xs) s 0 (suc j) d (omega arith) (omega arith)),
      rises_from xs (λ k d a b.
          let e : suc k + 1 ≡ suc (k + 1) = omega arith in
          subst (λ j. lt (get_or (x ∷ xs) j d) (get_or xs k d) ≡ false) e (s (suc k) d (omega arith) (omega arith))),
    )

    none_below_chain : (x z : X) (zs : List X) → lt z x ≡ false → NoneBelow z zs → NoneBelow x zs
    none_below_chain x z [] h n = tt
    none_below_chain x z (w ∷ ws) h n = (o.chain w z x n.0 h, none_below_chain x z ws h n.1)

    put_rises : (x : X) (xs : List X) → Rises xs → Rises (put x xs)
    put_rises x [] r = (tt, tt)
    put_rises x (z ∷ zs) r = by (lt z x) refl (put_rises x zs r.1)
      where
        by : (b : Bool) → lt z x ≡ b → Rises (put x zs) → Rises (if b then z ∷ put x zs else x ∷ z ∷ zs)
        by true e rest = (none_below_put z x zs (o.one_way z x e) r.0, rest)
        by false e rest = ((e, none_below_chain x z zs e r.0), r)

    pub in_order_rises : (xs : List X) → Rises (in_order xs)
    in_order_rises [] = tt
    in_order_rises (x ∷ xs) = put_rises x (in_order xs) (in_order_rises xs)

    -- ---- one list

    not_itself : (x : X) → lt x x ≡ false
    not_itself x = by (lt x x) refl
      where
        by : (b : Bool) → lt x x ≡ b → lt x x ≡ false
        by true e = o.one_way x x e
        by false e = e

    module _ (same : (x y : X) → lt x y ≡ false → lt y x ≡ false → x ≡ y) where
      abbrev tie : X → X → ℕ
      tie x z = if lt x z then 0 else if lt z x then 0 else 1

      tied : (x z : X) → 0 < tie x z → (lt x z ≡ false) × (lt z x ≡ false)
      tied x z h = by (lt x z) (lt z x) refl refl h
        where
          by : (a b : Bool) → lt x z ≡ a → lt z x ≡ b → 0 < (if a then 0 else if b then 0 else 1) → (lt x z ≡ false) × (lt z x ≡ false)
          by true b d e h = absurd (omega arith)
          by false true d e h = absurd (omega arith)
          by false false d e h = (d, e)

      -- a value that stands in the list is not less than what no value there is less than
      found : (x y : X) (zs : List X) → NoneBelow y zs → 0 < sum_by (tie x) zs → lt x y ≡ false
      found x y [] n h = absurd (omega arith)
      found x y (z ∷ zs) n h = by (tie x z) refl (found x y zs n.1)
        where
          by : (k : ℕ) → tie x z ≡ k → (0 < sum_by (tie x) zs → lt x y ≡ false) → lt x y ≡ false
          by zero e rest = rest (let s = sum_by-cons (tie x) z zs in omega arith)
          by (suc k) e rest =
              let t = tied x z (omega (arith, e)) in
              subst (λ (w : X). lt w y ≡ false) (sym (same x z t.0 t.1)) n.0

      tie_itself : (x : X) → tie x x ≡ 1
      tie_itself x = rw (not_itself x) refl

      heads : (x y : X) (xs ys : List X) → Rises (y ∷ ys) → ((f : X → ℕ) → sum_by f (x ∷ xs) ≡ sum_by f (y ∷ ys)) → lt x y ≡ false
      heads x y xs ys r all =
          let a = sum_by-cons (tie x) x xs in
          let b = tie_itself x in
          let c = all (tie x) in
          found x y (y ∷ ys) (not_itself y, r.0) (omega (arith, a, b, c))

      pub one_list : (xs ys : List X) → Rises xs → Rises ys → ((f : X → ℕ) → sum_by f xs ≡ sum_by f ys) → xs ≡ ys
      one_list [] [] r s all = refl
      one_list [] (y ∷ ys) r s all = let a = sum_by-cons (λ (z : X). 1) y ys in let c = all (λ z. 1) in absurd (omega (arith, a, c))
      one_list (x ∷ xs) [] r s all = let a = sum_by-cons (λ (z : X). 1) x xs in let c = all (λ z. 1) in absurd (omega (arith, a, c))
      one_list (x ∷ xs) (y ∷ ys) r s all =
          let e : x ≡ y = same x y (heads x y xs ys s all) (heads y x ys xs r (λ f. sym (all f))) in
          let rest : xs ≡ ys = one_list xs ys r.1 s.1 (λ f.
          let a = sum_by-cons f x xs in
          let b = sum_by-cons f y ys in
          let c = all f in
          let d : f x ≡ f y = ap f e in
          omega (arith, a, b, c, d))
          in
          λ i. e i ∷ rest i

-- a list that rises by what a function gives, and the list of what it gives
module _ {X K : Type 0} (key : X → K) (lt : K → K → Bool) where
  none_below_mapped : (x : X) (xs : List X) → NoneBelow (λ a b. lt (key a) (key b)) x xs → NoneBelow lt (key x) (map key xs)
  none_below_mapped x [] n = tt
  none_below_mapped x (z ∷ zs) n = (n.0, none_below_mapped x zs n.1)

  pub rises_mapped : (xs : List X) → Rises (λ a b. lt (key a) (key b)) xs → Rises lt (map key xs)
  rises_mapped [] r = tt
  rises_mapped (x ∷ xs) r = (none_below_mapped x xs r.0, rises_mapped xs r.1)

  none_below_back : (x : X) (xs : List X) → NoneBelow lt (key x) (map key xs) → NoneBelow (λ a b. lt (key a) (key b)) x xs
  none_below_back x [] n = tt
  none_below_back x (z ∷ zs) n = (n.0, none_below_back x zs n.1)

  pub rises_back : (xs : List X) → Rises lt (map key xs) → Rises (λ a b. lt (key a) (key b)) xs
  rises_back [] r = tt
  rises_back (x ∷ xs) r = (none_below_back x xs r.0, rises_back xs r.1)
