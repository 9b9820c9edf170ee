-- The pieces of a sink in memory, which are cut from its bytes by their lengths.
use Rattle.std.proofs.Common.{◌≡◌, ℕ, ◌≤◌, ◌+◌, List, [], ◌∷◌, ◌++◌, length, map, take, drop, refl, sym, ap, ap₂, ◌∙◌, arith, length-drop}
use Rattle.std.specs.Prelude.{◌≢◌, ◌==◌, false, sum}
use Rattle.std.specs.List.{concat}
use Rattle.std.proofs.lemmas.List.{take_all, length-take, take-append-drop, take-append-le, drop-append-le, nil_from_length}
use Rattle.std.proofs.lemmas.List.Sums.{sum_by-cons}
use Rattle.gp_io.specs.Outside.{piece_of}
use Rattle.gp_io.specs.Stored.{cut_by}

sum-cons : (n : ℕ) (ns : List ℕ) → sum (n ∷ ns) ≡ n + sum ns
sum-cons n ns = sum_by-cons (λ (x : ℕ). x) n ns

-- the first length fits, and the others are those of the rest
first_fits : (n : ℕ) (ns bytes : List ℕ) → sum (n ∷ ns) ≡ length bytes → n ≤ length bytes
first_fits n ns bytes e = omega (arith, sum-cons n ns)

rest_fits : (n : ℕ) (ns bytes : List ℕ) → sum (n ∷ ns) ≡ length bytes → sum ns ≡ length (drop n bytes)
rest_fits n ns bytes e = omega (arith, sum-cons n ns, length-drop n bytes)

-- one after another they are the bytes
pub pieces_joined : (ns bytes : List ℕ) → sum ns ≡ length bytes → concat (cut_by ns bytes) ≡ bytes
pieces_joined [] bytes e = sym (nil_from_length bytes (omega arith))
pieces_joined (n ∷ ns) bytes e =
    ap (λ (rest : List ℕ). take n bytes ++ rest) (pieces_joined ns (drop n bytes) (rest_fits n ns bytes e)) ∙ take-append-drop n bytes

-- each has its length
pub pieces_measured : (ns bytes : List ℕ) → sum ns ≡ length bytes → ns ≡ map (length {A = ℕ}) (cut_by ns bytes)
pieces_measured [] bytes e = refl
pieces_measured (n ∷ ns) bytes e =
    let h = first_fits n ns bytes e in
    ap₂ (λ (k : ℕ) (ks : List ℕ). k ∷ ks) (omega (arith, length-take n bytes)) (pieces_measured ns (drop n bytes) (rest_fits n ns bytes e))

-- one more stands behind the others
pub piece_added : (ns bytes more : List ℕ) → sum ns ≡ length bytes → cut_by (ns ++ length more ∷ []) (bytes ++ more) ≡ cut_by ns bytes ++ more ∷ []
piece_added [] bytes more e =
    let none : bytes ≡ [] = nil_from_length bytes (omega arith) in
    rw none (ap (λ (b : List ℕ). b ∷ []) (take_all (length more) more (omega arith)))
piece_added (n ∷ ns) bytes more e =
    let h = first_fits n ns bytes e in
    ap₂ (λ (b : List ℕ) (bs : List (List ℕ)). b ∷ bs) (take-append-le n bytes more h)
    (ap (cut_by (ns ++ length more ∷ [])) (drop-append-le n bytes more h) ∙ piece_added ns (drop n bytes) more (rest_fits n ns bytes e))

-- a text of some length is not empty, and is a piece
pub some_byte : (bytes : List ℕ) → length bytes == 0 ≡ false → bytes ≢ []
some_byte bytes e none = let n = ap (λ (b : List ℕ). length b == 0) none in cc

pub one_piece : (bytes : List ℕ) → bytes ≢ [] → piece_of bytes ≡ bytes ∷ []
one_piece [] some = absurd (some refl)
one_piece (b ∷ bs) some = refl
