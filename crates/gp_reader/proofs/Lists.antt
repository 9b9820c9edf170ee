-- Elements of lists by their places.
use Rattle.std.proofs.Common.{◌≡◌, ◌⊎◌, ℕ, ◌+◌, ◌<◌, Bool, false, List, [], ◌∷◌, ◌++◌, map, length, get_or, take, inl, inr, sym, ap, ◌∙◌, arith}
use Rattle.std.specs.Prelude.{flat_map, Contains}
use Rattle.std.proofs.lemmas.List.Elements.{at_from_Contains, Contains-from_at, Contains-append_left, Contains-append_right, Contains-append_cases}
use Rattle.gp_reader.specs.inside.Procedures.{IsMarked}
use Rattle.gp_reader.specs.inside.Visits.{CallsMarked}

-- the place of an element
pub place_of_element : (xs : List ℕ) (j : ℕ) → Contains xs j → (k : ℕ) × (k < length xs) × (get_or xs k 0 ≡ j)
place_of_element xs j h = let at = at_from_Contains xs j h in (at.0, at.1, at.2 0)

pub none_marked : (called : List ℕ) (marks : List Bool) (n : ℕ) → length called ≡ n → ((i : ℕ) → i < n → IsMarked marks (get_or called i 0) → ⊥) → CallsMarked called marks → ⊥
none_marked called marks n e none h =
    let at = place_of_element called h.0 h.1.0 in
    let lt : at.0 < n = omega (arith, at.1) in
    none at.0 lt (ap (λ j. get_or marks j false) at.2 ∙ h.1.1)
