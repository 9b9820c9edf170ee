-- What a loop over reads and writes did to the known bytes.
use Rattle.std.proofs.Common.{◌≡◌, ℕ, suc, ◌≤◌, ◌-◌, ◌+◌, ◌<◌, List, Option, length, take, drop, sym, subst, arith, length-drop, replicate}
use Rattle.std.proofs.lemmas.List.{length-replicate, take_all}
use Rattle.std.proofs.Math.Seq.{take-add}
use Rattle.std.proofs.KnownBytes.{Appends-trans}
use Rattle.std.specs.Io.KnownBytes.{Appends}

-- what is behind a front, as a range of the piece
rest_of : (piece : List ℕ) (done : ℕ) → take (length piece - done) (drop done piece) ≡ drop done piece
rest_of piece done = take_all _ _ (omega (arith, length-drop done piece))

-- one more write goes on in the piece where the writes before it stopped
pub more_out : (a b c : Option (List ℕ)) (piece : List ℕ) (done count : ℕ) → Appends a b (take done piece) →
    Appends b c (take count (take (length piece - done) (drop done piece))) → Appends a c (take (done + count) piece)
more_out a b c piece done count first second =
    subst (λ bs. Appends a c bs) (sym (take-add done count piece))
    (Appends-trans a b c _ _ first (subst (λ rest. Appends b c (take count rest)) (rest_of piece done) second))

pub within : (piece : List ℕ) (done count : ℕ) → done < length piece → count ≤ length (take (length piece - done) (drop done piece)) → done + count ≤ length piece
within piece done count inside bound = let b = rw (rest_of piece done) at bound in omega (arith, length-drop done piece)

-- some file is longer than the limit
pub longer_bytes : (limit : ℕ) → (bytes : List ℕ) × (limit < length bytes)
longer_bytes limit = (replicate (suc limit) 0, omega (arith, length-replicate {A = ℕ} (suc limit) 0))
