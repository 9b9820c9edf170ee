-- Runs of bytes of one class.
use Rattle.std.proofs.Common.{◌≡◌, ℕ, zero, suc, ◌+◌, ◌<◌, Bool, true, false, cond, List, [], ◌∷◌, length, take, drop, refl, arith}
use Rattle.std.specs.Prelude.{slice_index_or, ◌&&◌, Contains}
use Rattle.std.specs.List.{prefix_len, list_all}

module _ {X : Type 0} (p : X → Bool) where
  pub run_passes : (xs : List X) → list_all p (take (prefix_len p xs) xs) ≡ true
  run_passes [] = refl
  run_passes (x ∷ xs) = go (p x) refl (run_passes xs)
    where
      go : (b : Bool) → p x ≡ b → list_all p (take (prefix_len p xs) xs) ≡ true → list_all p (take (cond b (1 + prefix_len p xs) 0) (x ∷ xs)) ≡ true
      go true e below = let one : 1 + prefix_len p xs ≡ suc (prefix_len p xs) = omega arith in rw (one, e, below) refl
      go false e below = refl

  pub run_stops : (d : X) → p d ≡ false → (xs : List X) → p (slice_index_or (drop (prefix_len p xs) xs) 0 d) ≡ false
  run_stops d h [] = h
  run_stops d h (x ∷ xs) = go (p x) refl (run_stops d h xs)
    where
      go : (b : Bool) → p x ≡ b → p (slice_index_or (drop (prefix_len p xs) xs) 0 d) ≡ false → p (slice_index_or (drop (cond b (1 + prefix_len p xs) 0) (x ∷ xs)) 0 d) ≡ false
      go true e below = let one : 1 + prefix_len p xs ≡ suc (prefix_len p xs) = omega arith in rw one below
      go false e below = e

  pub short_run : (xs : List X) → prefix_len p xs < length xs → list_all p xs ≡ false
  short_run [] lt = absurd (omega arith)
  short_run (x ∷ xs) lt = go (p x) refl (short_run xs) lt
    where
      go : (b : Bool) → p x ≡ b → (prefix_len p xs < length xs → list_all p xs ≡ false) → cond b (1 + prefix_len p xs) 0 < length (x ∷ xs) → (p x && list_all p xs) ≡ false
      go true e below lt = let more : prefix_len p xs < length xs = omega arith in rw (e, below more) refl
      go false e below lt = rw e refl

  pub passes : (xs : List X) → list_all p xs ≡ true → (x : X) → Contains xs x → p x ≡ true
  passes [] h x (k, lt, e) = absurd (omega arith)
  passes (y ∷ xs) h x (k, lt, e) = go (λ h x c. passes xs h x c) (p y) refl h k lt e
    where
      go : (list_all p xs ≡ true → (x : X) → Contains xs x → p x ≡ true) → (b : Bool) → p y ≡ b → (b && list_all p xs) ≡ true → (k : ℕ) → k < length (y ∷ xs) → slice_index_or (y ∷ xs) k x ≡ x → p x ≡ true
      go below false e h k lt f = absurd cc
      go below true e h zero lt f = rw (← f) e
      go below true e h (suc k) lt f = below h x (k, omega arith, f)
