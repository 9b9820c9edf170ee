-- What holds where there is room enough: the first number is the room for lists, the second that of the part itself.
use Rattle.std.proofs.Common.{ℕ, zero, suc, ◌+◌, ◌≤◌, List, [], ◌∷◌, arith}
use Rattle.std.specs.List.{AllByRecursion}

pub record Roomy (P : ℕ → ℕ → Type 0) : Type 0 where
  pub room : ℕ
  pub holds : (m n : ℕ) → room ≤ m → room ≤ n → P m n

pub anywhere : (P : ℕ → ℕ → Type 0) → ((m n : ℕ) → P m n) → Roomy P
anywhere P h = record { room = 0; holds = λ m n _ _. h m n }

pub becomes : (P Q : ℕ → ℕ → Type 0) → ((m n : ℕ) → P m n → Q m n) → Roomy P → Roomy Q
becomes P Q f a = record { room = a.room; holds = λ m n l k. f m n (a.holds m n l k) }

-- one room more
pub deeper : (P Q : ℕ → ℕ → Type 0) → ((m n : ℕ) → P m n → Q m (suc n)) → Roomy P → Roomy Q
deeper P Q f a = record { room = suc a.room; holds = go }
  where
    go : (m n : ℕ) → suc a.room ≤ m → suc a.room ≤ n → Q m n
    go m zero l k = absurd (omega arith)
    go m (suc n) l k = f m n (a.holds m n (omega arith) (omega arith))

pub together : (P Q : ℕ → ℕ → Type 0) → Roomy P → Roomy Q → Roomy (λ m n. P m n × Q m n)
together P Q a b = record { room = a.room + b.room; holds = λ m n l k. (a.holds m n (omega arith) (omega arith), b.holds m n (omega arith) (omega arith)) }

-- a part of lists
pub of_lists : (P : ℕ → Type 0) → Roomy (λ m n. P n) → Roomy (λ m n. P m)
of_lists P a = record { room = a.room; holds = λ m n l k. a.holds n m k l }

-- all the room there is
pub in_both : (P : ℕ → ℕ → Type 0) → Roomy P → Roomy (λ m n. P m m)
in_both P a = record { room = a.room; holds = λ m n l k. a.holds m m l l }

pub all_roomy : {A : Type 0} (P : A → ℕ → ℕ → Type 0) (xs : List A) → AllByRecursion (λ x. Roomy (P x)) xs → Roomy (λ m n. AllByRecursion (λ x. P x m n) xs)
all_roomy P [] h = anywhere _ (λ m n. tt)
all_roomy P (x ∷ xs) h = together (P x) (λ m n. AllByRecursion (λ x. P x m n) xs) h.0 (all_roomy P xs h.1)
