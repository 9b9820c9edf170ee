-- What holds of each element of a list.
use Rattle.std.proofs.Common.{◌≡◌, ◌⊎◌, inl, inr, Bool, true, false, cond, List, [], ◌∷◌, ◌++◌, map, filter, flat_map, subst, arith}
use Rattle.std.specs.Prelude.{Contains}
use Rattle.std.proofs.lemmas.List.Elements.{Contains-append_cases, Contains-push_cases}

abbrev pub Each : {A : Type 0} → (A → Type 0) → List A → Type 0
Each P [] = Unit {0}
Each P (x ∷ xs) = P x × Each P xs

pub each_both : {A : Type 0} (P : A → Type 0) (xs ys : List A) → Each P xs → Each P ys → Each P (xs ++ ys)
each_both P [] ys u v = v
each_both P (x ∷ xs) ys u v = (u.0, each_both P xs ys u.1 v)

pub each_of_map : {A B : Type 0} (P : B → Type 0) (f : A → B) (xs : List A) → Each (λ x. P (f x)) xs → Each P (map f xs)
each_of_map P f [] u = tt
each_of_map P f (x ∷ xs) u = (u.0, each_of_map P f xs u.1)

pub each_of_all : {A B : Type 0} (P : B → Type 0) (f : A → List B) (xs : List A) → Each (λ x. Each P (f x)) xs → Each P (flat_map f xs)
each_of_all P f [] u = tt
each_of_all P f (x ∷ xs) u = each_both P (f x) (flat_map f xs) u.0 (each_of_all P f xs u.1)

pub each_of_some : {A : Type 0} (P : A → Type 0) (f : A → Bool) (xs : List A) → Each P xs → Each P (filter f xs)
each_of_some P f [] u = tt
each_of_some {A} P f (x ∷ xs) u = kept (f x) (filter f xs) u.0 (each_of_some P f xs u.1)
  where
    kept : (b : Bool) (rest : List A) → P x → Each P rest → Each P (cond b (x ∷ rest) rest)
    kept true rest p r = (p, r)
    kept false rest p r = r

-- an element is the first one, or one of the others
pub first_or : {A : Type 0} (c x : A) (cs : List A) → Contains (c ∷ cs) x → (c ≡ x) ⊎ Contains cs x
first_or c x cs h = elim (Contains-append_cases (c ∷ []) cs x h) [ inl d ↦ elim (Contains-push_cases [] c x d) [ inl n ↦ absurd (omega (arith, n.1)) | inr e ↦ inl e ] | inr r ↦ inr r ]

pub each_contained : {A : Type 0} (P : A → Type 0) (xs : List A) (x : A) → Each P xs → Contains xs x → P x
each_contained P [] x u h = absurd (omega (arith, h.1))
each_contained P (y ∷ ys) x u h = elim (first_or y x ys h) [ inl e ↦ subst P e u.0 | inr r ↦ each_contained P ys x u.1 r ]
