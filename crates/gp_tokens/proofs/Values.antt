-- A value does not go down again.
use Rattle.std.proofs.Common.{◌≡◌, ℕ, suc, ◌+◌, ◌-◌, ◌*◌, ◌/◌, ◌<◌, ◌≤◌, false, leb, List, [], ◌∷◌, length, get_or, drop, refl, arith, drop-cons}
use Rattle.std.proofs.lemmas.Bool.{lt-leb}
use Rattle.gp_tokens.specs.Numbers.{number_from}

grows : (n : ℕ) (ds : List ℕ) → n ≤ number_from n ds
grows n [] = omega arith
grows n (b ∷ ds) = omega (arith, grows (n * 10 + (b - 48)) ds)

pub is_past : (limit n i : ℕ) (ds : List ℕ) (total : ℕ) → i < length ds → get_or ds i 0 - 48 ≤ limit → (limit - (get_or ds i 0 - 48)) / 10 < n → number_from n (drop i ds) ≡ total → leb total limit ≡ false
is_past limit n i ds total lt small past e =
    let cell : number_from n (drop i ds) ≡ number_from (n * 10 + (get_or ds i 0 - 48)) (drop (suc i) ds) = rw (drop-cons ds i 0) refl in
    let more = grows (n * 10 + (get_or ds i 0 - 48)) (drop (suc i) ds) in
    lt-leb total limit (omega arith)
