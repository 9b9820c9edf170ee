-- Reading many, one after the other.
use Rattle.std.proofs.Common.{◌≡◌, ℕ, zero, suc, ◌-◌, ◌<◌, true, false, List, [], ◌∷◌, ◌++◌, length, Option, Some, None, refl, sym, ap, ◌∙◌, append_assoc, arith}
use Rattle.std.proofs.lemmas.List.{append-nil}
use Rattle.std.specs.Prelude.{option_map}
use Rattle.gp_memory.proofs.Basics.{some_is as inside}
use Rattle.gp_tokens.specs.declared.token.Token.{Token}
use Rattle.gp_tokens.specs.declared.error.ReadError.{ReadError}
use Rattle.gp_tokens.specs.declared.error.ReadError.TheVariants as error
use Rattle.gp_tokens.specs.declared.want.Want.{Want}
use Rattle.gp_tokens.specs.Shape.{second_of, list_of}
use Rattle.gp_tokens.specs.Ahead.{◌>>=◌}
use Rattle.gp_tokens.specs.Reading.{Reader, Fails, begins, behind, token, ◌and◌, made, many, repeated, separated}
use Rattle.gp_tokens.specs.inside.More.{more_of}

-- what was read before, and what is still read
abbrev pub with_front : {A : Type 0} → List A → Option (List A × List Token) → Option (List A × List Token)
with_front front read = read >>= λ x. Some (front ++ x.0, x.1)

-- The front was read before. What is read of the rest, of so many at most, completes the whole.
pub record GoesOn {A : Type 0} (want : Want) (one : Reader A) (whole : Option (List A × List Token)) (front : List A) (most : ℕ) (rest : List Token) : Type 0 where
  pub same : with_front front (many want one most rest) ≡ whole

with_nothing : {A : Type 0} (read : Option (List A × List Token)) → with_front [] read ≡ read
with_nothing None = refl
with_nothing (Some x) = refl

regroup : {A : Type 0} (front : List A) (x : A) (read : Option (List A × List Token)) → with_front front (read >>= λ xs. Some (x ∷ xs.0, xs.1)) ≡ with_front (front ++ x ∷ []) read
regroup front x None = refl
regroup front x (Some y) = ap (λ (xs : List _). Some (xs, y.1)) (simp append_assoc)

module _ {A : Type 0} (want : Want) (one : Reader A) where
  link : (n : ℕ) (ts : List Token) → begins want ts ≡ true → 0 < n → many want one n ts ≡ (one ts >>= λ x. many want one (n - 1) x.1 >>= λ xs. Some (x.0 ∷ xs.0, xs.1))
  unfolding many
  link zero ts b lt = absurd (omega arith)
  link (suc n) ts b lt = let e : suc n - 1 ≡ n = omega arith in rw (b, e) refl

  empty : (n : ℕ) (ts : List Token) → begins want ts ≡ false → many want one n ts ≡ Some ([], ts)
  unfolding many
  empty zero ts b = refl
  empty (suc n) ts b = rw b refl

  none_left : (n : ℕ) (ts : List Token) → n ≡ 0 → many want one n ts ≡ Some ([], ts)
  unfolding many
  none_left zero ts e = refl
  none_left (suc n) ts e = absurd (omega arith)

module _ {A : Type 0} (want : Want) (one : Reader A) (whole : Option (List A × List Token)) where
  pub starts : (start : List Token) → GoesOn want one (repeated want one start) [] (length start) start
  starts start = record { same = with_nothing (many want one (length start) start) }

  pub goes_on : (front : List A) (n m : ℕ) (ts : List Token) (x : A) (after : List Token) → begins want ts ≡ true → one ts ≡ Some (x, after) → 0 < n → m ≡ n - 1
      → GoesOn want one whole front n ts → GoesOn want one whole (front ++ x ∷ []) m after
  goes_on front n m ts x after b h lt e w = record {
    same =
        let step : many want one n ts ≡ (many want one m after >>= λ xs. Some (x ∷ xs.0, xs.1)) = link want one n ts b lt ∙ rw (h, e) refl in
        sym (ap (with_front front) step ∙ regroup front x (many want one m after)) ∙ w.same;
  }

  pub goes_further : (front after : List A) (n m : ℕ) (ts rest : List Token) → begins want ts ≡ true → option_map (more_of front) (one ts) ≡ Some (after, rest) → 0 < n → m ≡ n - 1
      → GoesOn want one whole front n ts → GoesOn want one whole after m rest
  goes_further front after n m ts rest b h lt e w = by (one ts) refl h
    where
      by : (read : Option (A × List Token)) → one ts ≡ read → option_map (more_of front) read ≡ Some (after, rest) → GoesOn want one whole after m rest
      by None f k = absurd cc
      by (Some x) f k =
          let s = inside (more_of front x) (after, rest) k in
          let p : front ++ x.0 ∷ [] ≡ after = ap (λ (y : List A × List Token). y.0) s in
          let q : x.1 ≡ rest = ap (λ (y : List A × List Token). y.1) s in
          rw (← p, ← q) (goes_on front n m ts x.0 x.1 b f lt e w)

  pub fails : (e : ReadError) (front : List A) (n : ℕ) (ts : List Token) → begins want ts ≡ true → Fails e (one ts) → 0 < n → GoesOn want one whole front n ts → Fails e whole
  fails error.NoMemory front n ts b h lt w = tt
  fails (error.Syntax k) front n ts b h lt w =
      let step : many want one n ts ≡ None = link want one n ts b lt ∙ rw h refl in
      sym w.same ∙ ap (with_front front) step

  pub ends : (front : List A) (n : ℕ) (ts : List Token) → begins want ts ≡ false → GoesOn want one whole front n ts → whole ≡ Some (front, ts)
  ends front n ts b w = sym w.same ∙ ap (with_front front) (empty want one n ts b) ∙ ap (λ (xs : List A). Some (xs, ts)) (append-nil front)

  pub runs_out : (front : List A) (n : ℕ) (ts : List Token) → n ≡ 0 → GoesOn want one whole front n ts → whole ≡ Some (front, ts)
  runs_out front n ts e w = sym w.same ∙ ap (with_front front) (none_left want one n ts e) ∙ ap (λ (xs : List A). Some (xs, ts)) (append-nil front)

-- ---- with a sign between

-- a sign, and one more
abbrev pub next_of : {A : Type 0} → Want → Reader A → Reader A
next_of sign one = made second_of (token sign and one)

pub next_is : {A : Type 0} (sign : Want) (one : Reader A) (ts : List Token) → begins sign ts ≡ true → next_of sign one ts ≡ one (behind sign ts)
next_is sign one [] b = absurd cc
next_is sign one (t ∷ ts) b = rw b (same t (one ts))
  where
    same : {B : Type 0} (t : Token) (read : Option (B × List Token)) → (◌>>=◌ {B = B × List Token} (◌>>=◌ {B = (Token × B) × List Token} read (λ y. Some ((t, y.0), y.1))) (λ x. Some (x.0.1, x.1))) ≡ read
    same t None = refl
    same t (Some y) = refl

pub behind_none : (sign : Want) (ts : List Token) → begins sign ts ≡ false → behind sign ts ≡ ts
behind_none sign [] b = refl
behind_none sign (t ∷ ts) b = rw b refl

-- ---- the first one

pub first_fails : {A : Type 0} (sign : Want) (one : Reader A) (ts : List Token) (e : ReadError) → Fails e (one ts) → Fails e (separated sign one ts)
first_fails sign one ts error.NoMemory h = tt
first_fails sign one ts (error.Syntax k) h = rw h refl

module _ {A : Type 0} where
  listed : (a : A) (read : Option (List A × List Token)) → with_front (a ∷ []) read ≡ (◌>>=◌ {B = List A × List Token} (◌>>=◌ {B = (A × List A) × List Token} read (λ y. Some ((a, y.0), y.1))) (λ x. Some (list_of x.0, x.1)))
  listed a None = refl
  listed a (Some y) = refl

  pub begun : (sign : Want) (one : Reader A) (ts rest : List Token) (first : List A) (n : ℕ) → n ≡ length rest → option_map (more_of []) (one ts) ≡ Some (first, rest) → GoesOn sign (next_of sign one) (separated sign one ts) first n rest
  begun sign one ts rest first n m h = by (one ts) refl h
    where
      by : (read : Option (A × List Token)) → one ts ≡ read → option_map (more_of []) read ≡ Some (first, rest) → GoesOn sign (next_of sign one) (separated sign one ts) first n rest
      by None f k = absurd cc
      by (Some x) f k =
          let e = inside (more_of [] x) (first, rest) k in
          let p : x.0 ∷ [] ≡ first = ap (λ (y : List A × List Token). y.0) e in
          let q : x.1 ≡ rest = ap (λ (y : List A × List Token). y.1) e in
          rw (m, ← p, ← q) (record { same = rw f (listed x.0 (repeated sign (next_of sign one) x.1)) })
