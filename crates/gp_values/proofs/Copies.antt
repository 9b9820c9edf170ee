-- Lists that are copied one by one.
use Rattle.std.proofs.Common.{◌≡◌, ℕ, ◌+◌, ◌<◌, List, [], ◌∷◌, ◌++◌, length, get_or, take, sym, ap, ◌∙◌}
use Rattle.std.proofs.lemmas.List.{take_more}

pub one_copied : {X : Type 0} (xs ys zs : List X) (i : ℕ) (x y : X) → i < length xs → x ≡ get_or xs i x → y ≡ x → ys ≡ take i xs → zs ≡ ys ++ y ∷ [] → zs ≡ take (i + 1) xs
one_copied xs ys zs i x y l is same before e =
    e ∙ ap (λ z. z ++ y ∷ []) before ∙ ap (λ z. take i xs ++ z ∷ []) (same ∙ is) ∙ sym (take_more xs i x l)
