-- What is collected of the right side, item by item.
use Rattle.std.proofs.Common.{◌≡◌, ℕ, suc, ◌+◌, ◌<◌, ◌≤◌, Bool, true, false, if◌then◌else◌, List, [], ◌∷◌, ◌++◌, length, get_or, drop, drop-cons, append_assoc, add-one, Option, Some, None, slice_get, slice_index, refl, sym, ap, subst, ◌∙◌, arith}
use Rattle.std.proofs.lemmas.List.{append-nil, at_drop_more, at_drop_all}
use Rattle.gp_memory.proofs.Basics.{nothing_more}
use Rattle.gp_step.specs.Halves.{gone}
use Rattle.gp_step.specs.inside.Changes.{kept_first, new_first}
use Rattle.gp_step.proofs.Labels.{same_element}

one_more : {X : Type 0} (so new rest : List X) (x : X) → new ≡ so ++ x ∷ [] → new ++ rest ≡ so ++ x ∷ rest
one_more so new rest x e = ap (λ l. l ++ rest) e ∙ append_assoc so (x ∷ []) rest

-- ---- what goes

gone_same : (p q : ℕ → Bool) (ns : List ℕ) → ((i : ℕ) → p i ≡ q i) → gone p ns ≡ gone q ns
gone_same p q [] h = refl
gone_same p q (n ∷ ns) h = let e = gone_same (λ i. p (suc i)) (λ i. q (suc i)) ns (λ i. h (suc i)) in rw (h 0, e) refl

swapped : (n i : ℕ) → n + suc i ≡ (n + 1) + i
swapped n i = omega arith

-- of items whose numbers are viewed so
pub gone_next : {X : Type 0} (number : X → ℕ) (view : List X → List ℕ) → ((x : X) (xs : List X) → view (x ∷ xs) ≡ number x ∷ view xs) → (kept : ℕ → Bool) (xs : List X) (n : ℕ) (d : X) (so end : List ℕ) → n < length xs
    → so ++ gone (λ i. kept (n + i)) (view (drop n xs)) ≡ end
    → record { stays : kept n ≡ true → so ++ gone (λ i. kept ((n + 1) + i)) (view (drop (n + 1) xs)) ≡ end; goes : kept n ≡ false → (so ++ number (get_or xs n d) ∷ []) ++ gone (λ i. kept ((n + 1) + i)) (view (drop (n + 1) xs)) ≡ end }
gone_next number view each kept xs n d so end l same =
    let x = number (get_or xs n d) in
    let rest = view (drop (suc n) xs) in
    let first : view (drop n xs) ≡ x ∷ rest = ap view (drop-cons xs n d l) ∙ each (get_or xs n d) (drop (suc n) xs) in
    let s : so ++ (if kept (n + 0) then gone (λ i. kept (n + suc i)) rest else x ∷ gone (λ i. kept (n + suc i)) rest) ≡ end = subst (λ l. so ++ gone (λ i. kept (n + i)) l ≡ end) first same in
    let e : gone (λ i. kept (n + suc i)) rest ≡ gone (λ i. kept ((n + 1) + i)) rest = gone_same (λ i. kept (n + suc i)) (λ i. kept ((n + 1) + i)) rest (λ i. ap kept (swapped n i)) in
    record {
      stays = λ t.
          let b : kept (n + 0) ≡ true = ap kept (nothing_more n) ∙ t in
          let u : so ++ gone (λ i. kept (n + suc i)) rest ≡ end = subst (λ z. so ++ (if z then gone (λ i. kept (n + suc i)) rest else x ∷ gone (λ i. kept (n + suc i)) rest) ≡ end) b s in
          subst (λ z. so ++ gone (λ i. kept ((n + 1) + i)) (view (drop z xs)) ≡ end) (sym (add-one n)) (ap (λ l. so ++ l) (sym e) ∙ u);
      goes = λ t.
          let b : kept (n + 0) ≡ false = ap kept (nothing_more n) ∙ t in
          let u : so ++ x ∷ gone (λ i. kept (n + suc i)) rest ≡ end = subst (λ z. so ++ (if z then gone (λ i. kept (n + suc i)) rest else x ∷ gone (λ i. kept (n + suc i)) rest) ≡ end) b s in
          subst (λ z. (so ++ x ∷ []) ++ gone (λ i. kept ((n + 1) + i)) (view (drop z xs)) ≡ end) (sym (add-one n)) (one_more so (so ++ x ∷ []) (gone (λ i. kept ((n + 1) + i)) rest) x refl ∙ ap (λ l. so ++ x ∷ l) (sym e) ∙ u);
    }

-- ---- the item of a turn

pub item_at : {X : Type 0} (xs ys : List X) (k : ℕ) (q : X) → ys ≡ xs → k < length ys → q ≡ get_or ys k q → slice_get xs k ≡ Some q
item_at xs ys k q e l is =
    let h : q ≡ get_or xs k q = is ∙ ap (λ zs. get_or zs k q) e in
    let b : k < length xs = subst (λ zs. k < length zs) e l in
    same_element xs k q b ∙ ap (λ z. Some z) (sym h)

-- what is said of the items from this place on
pub from_item : {X : Type 0} {Y : Type 0} (F : List X → Y) (xs ys : List X) (k : ℕ) (q : X) → ys ≡ xs → k < length ys → q ≡ get_or ys k q → F (drop k xs) ≡ F (q ∷ drop (k + 1) xs)
from_item F xs ys k q e l is =
    let h : q ≡ get_or xs k q = is ∙ ap (λ zs. get_or zs k q) e in
    at_drop_more F xs k q (subst (λ zs. k < length zs) e l) ∙ ap (λ z. F (z ∷ drop (k + 1) xs)) (sym h)

-- and behind the last
pub all_items : {X A : Type 0} (so whole : List A) (rest : List X → List A) (xs ys : List X) (k : ℕ) → ys ≡ xs → length ys ≤ k → rest [] ≡ [] → so ++ rest (drop k xs) ≡ whole → so ≡ whole
all_items so whole rest xs ys k e l none same =
    sym (append-nil so) ∙ sym (ap (λ zs. so ++ zs) (at_drop_all rest xs k (subst (λ zs. length zs ≤ k) e l) ∙ none)) ∙ same

pub kept_more : {X : Type 0} (found : List ℕ) (o : Option ℕ) (x : X) (ps rest : List (ℕ × X)) → (ps ++ kept_first found o x []) ++ rest ≡ ps ++ kept_first found o x rest
kept_more found (Some i) x ps rest = append_assoc ps ((slice_index found i, x) ∷ []) rest
kept_more found None x ps rest = append_assoc ps [] rest

pub new_more : {X : Type 0} (o : Option ℕ) (x : X) (xs rest : List X) → (xs ++ new_first o x []) ++ rest ≡ xs ++ new_first o x rest
new_more (Some i) x xs rest = append_assoc xs [] rest
new_more None x xs rest = append_assoc xs (x ∷ []) rest
