-- Tables of names by their keys.
use Rattle.std.proofs.Common.{◌≡◌, ℕ, ◌+◌, Bool, true, false, cond, ◌||◌, List, [], ◌∷◌, ◌++◌, map, position, Some, refl, ap, ◌∙◌}
use Rattle.std.specs.Prelude.{nat_eq, if◌then◌else◌}
use Rattle.std.specs.Cmp.Lexicographic.{pointwise}
use Rattle.std.specs.List.{list_any, position_from}
use Rattle.std.proofs.lemmas.Iterator.Adapters.{position_from-zero}
use Rattle.gp_values.specs.Names.{Name, has_name, place_of}

any_mapped : {A B : Type 0} (f : A → B) (t : B → Bool) (xs : List A) → list_any (λ x. t (f x)) xs ≡ list_any t (map f xs)
any_mapped f t [] = refl
any_mapped f t (x ∷ xs) = ap (λ b. t (f x) || b) (any_mapped f t xs)

position_mapped : {A B : Type 0} (f : A → B) (t : B → Bool) (i : ℕ) (xs : List A) → position_from (λ x. t (f x)) i xs ≡ position_from t i (map f xs)
position_mapped f t i [] = refl
position_mapped f t i (x ∷ xs) = ap (cond (t (f x)) (Some i)) (position_mapped f t (i + 1) xs)

module _ {A : Type 0} (f : A → Name) (keys : List A) (names : List Name) (same : map f keys ≡ names) where
  pub has_key : (q n : Name) → q ≡ n → list_any (λ x. pointwise nat_eq q (f x)) keys ≡ has_name names n
  has_key q n e = any_mapped f (pointwise nat_eq q) keys ∙ rw (same, e) refl

  pub key_place : (q n : Name) → q ≡ n → position (λ x. pointwise nat_eq q (f x)) keys ≡ place_of names n
  key_place q n e = position_from-zero (λ x. pointwise nat_eq q (f x)) keys ∙ position_mapped f (pointwise nat_eq q) 0 keys ∙ rw (same, e) refl

  map_one_more : (xs : List A) (k : A) → map f (xs ++ k ∷ []) ≡ map f xs ++ f k ∷ []
  map_one_more [] k = refl
  map_one_more (x ∷ xs) k = ap (λ l. f x ∷ l) (map_one_more xs k)

  -- the keys after one more was put in
  pub with_key : (k : A) (n : Name) → f k ≡ n → map f (if list_any (λ x. pointwise nat_eq (f k) (f x)) keys then keys else keys ++ k ∷ []) ≡ (if has_name names n then names else names ++ n ∷ [])
  with_key k n e = go (has_name names n) (has_key (f k) n e)
    where
      go : (b : Bool) → list_any (λ x. pointwise nat_eq (f k) (f x)) keys ≡ b → map f (if list_any (λ x. pointwise nat_eq (f k) (f x)) keys then keys else keys ++ k ∷ []) ≡ (if b then names else names ++ n ∷ [])
      go true h = rw h same
      go false h = rw h (map_one_more keys k ∙ rw (same, e) refl)
