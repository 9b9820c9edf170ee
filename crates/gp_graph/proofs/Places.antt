-- What stands at a place of a list, and the places before it.
use Rattle.std.proofs.Common.{◌≡◌, ℕ, zero, suc, ◌+◌, ◌<◌, List, [], ◌∷◌, ◌++◌, length, get_or, take, refl, ap, ap₂, ◌∙◌, arith}
use Rattle.std.specs.Prelude.{Option}
use Rattle.gp_graph.specs.inside.Slots.{slot_in}

pub slot_is : {X : Type 0} (xs : List (Option X)) (k : ℕ) (d : Option X) → k < length xs → slot_in xs k ≡ get_or xs k d
slot_is [] k d h = absurd (omega arith)
slot_is (x ∷ xs) zero d h = refl
slot_is (x ∷ xs) (suc k) d h = slot_is xs k d (omega arith)

take_next : {X : Type 0} (xs : List X) (k : ℕ) (x : X) → k < length xs → x ≡ get_or xs k x → take k xs ++ x ∷ [] ≡ take (k + 1) xs
take_next [] k x h is = absurd (omega arith)
take_next (y ∷ ys) zero x h is = ap (λ z. z ∷ []) is
take_next (y ∷ ys) (suc k) x h is = let e : suc k + 1 ≡ suc (k + 1) = omega arith in rw e (ap (λ l. y ∷ l) (take_next ys k x (omega arith) is))

-- one more of the list stands behind those that were taken
pub taken_next : {X : Type 0} (xs : List X) (k : ℕ) (x y : X) (old new : List X) → k < length xs → x ≡ get_or xs k x → y ≡ x → old ≡ take k xs → new ≡ old ++ y ∷ [] → new ≡ take (k + 1) xs
taken_next xs k x y old new h is same taken pushed = pushed ∙ ap₂ (λ l z. l ++ z ∷ []) taken same ∙ take_next xs k x h is
