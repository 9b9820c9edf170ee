-- The first that is told, over lists; and names that are unknown or doubled.
use Rattle.std.proofs.Common.{◌≡◌, ℕ, zero, suc, ◌<◌, Bool, true, false, if◌then◌else◌, ◌||◌, List, [], ◌∷◌, ◌++◌, map, flat_map, length, get_or, Option, Some, None, refl, sym, ap, subst, ◌∙◌, arith}
use Rattle.std.specs.Option.{option_or}
use Rattle.std.specs.List.{list_all}
use Rattle.gp_memory.proofs.Basics.{both, neither, or_assoc}
use Rattle.gp_values.specs.Names.{Name, has_name, first_unknown}
use Rattle.gp_syntax.specs.Fault.{first_told, unless}
use Rattle.gp_syntax.proofs.Declarations.{has_append, same_name_itself}

pub passes : (b : Bool) (n : Name) → unless b n ≡ None → b ≡ true
passes true n h = refl
passes false n h = absurd cc

pub passed : (b : Bool) (n : Name) → b ≡ true → unless b n ≡ None
passed b n h = rw h refl

pub told_append : {A B : Type 0} (f : A → Option B) (xs ys : List A) → first_told f (xs ++ ys) ≡ option_or (first_told f xs) (first_told f ys)
told_append f [] ys = refl
told_append f (x ∷ xs) ys = ap (option_or (f x)) (told_append f xs ys) ∙ sym (or_assoc (f x) (first_told f xs) (first_told f ys))

pub told_flat : {A B C : Type 0} (f : B → Option C) (g : A → List B) (xs : List A) → first_told f (flat_map g xs) ≡ first_told (λ x. first_told f (g x)) xs
told_flat f g [] = refl
told_flat f g (x ∷ xs) = told_append f (g x) (flat_map g xs) ∙ ap (option_or (first_told f (g x))) (told_flat f g xs)

-- where nothing is told, nothing is told of any
pub told_none : {A B : Type 0} (f : A → Option B) (xs : List A) → first_told f xs ≡ None → (k : ℕ) (d : A) → k < length xs → f (get_or xs k d) ≡ None
told_none f [] h k d l = absurd (omega arith)
told_none f (x ∷ xs) h zero d l = (neither (f x) (first_told f xs) h).0
told_none f (x ∷ xs) h (suc k) d l = told_none f xs (neither (f x) (first_told f xs) h).1 k d (omega arith)

pub told_weaker : {A B : Type 0} (f g : A → Option B) → ((x : A) → f x ≡ None → g x ≡ None) → (xs : List A) → first_told f xs ≡ None → first_told g xs ≡ None
told_weaker f g weaker [] h = refl
told_weaker f g weaker (x ∷ xs) h =
    let p = neither (f x) (first_told f xs) h in
    rw (weaker x p.0) (told_weaker f g weaker xs p.1)

pub told_stronger : {A B : Type 0} (f g h : A → Option B) → ((x : A) → f x ≡ None → g x ≡ None → h x ≡ None) → (xs : List A) → first_told f xs ≡ None → first_told g xs ≡ None → first_told h xs ≡ None
told_stronger f g h stronger [] p q = refl
told_stronger f g h stronger (x ∷ xs) p q =
    let a = neither (f x) (first_told f xs) p in
    let b = neither (g x) (first_told g xs) q in
    rw (stronger x a.0 b.0) (told_stronger f g h stronger xs a.1 b.1)

pub told_map : {A B C : Type 0} (f : B → Option C) (g : A → B) (xs : List A) → first_told f (map g xs) ≡ first_told (λ x. f (g x)) xs
told_map f g [] = refl
told_map f g (x ∷ xs) = ap (option_or (f (g x))) (told_map f g xs)

-- a test that all pass
pub all_pass : {A : Type 0} (p : A → Bool) (xs : List A) → list_all p xs ≡ true → (k : ℕ) (d : A) → k < length xs → p (get_or xs k d) ≡ true
all_pass p [] h k d l = absurd (omega arith)
all_pass p (x ∷ xs) h zero d l = (both (p x) (list_all p xs) h).0
all_pass p (x ∷ xs) h (suc k) d l = all_pass p xs (both (p x) (list_all p xs) h).1 k d (omega arith)

-- each of two is told of none
pub told_both : {A B : Type 0} (f g : A → Option B) (xs : List A) → first_told (λ x. option_or (f x) (g x)) xs ≡ None → (first_told f xs ≡ None) × (first_told g xs ≡ None)
told_both f g xs h = (told_weaker (λ x. option_or (f x) (g x)) f (λ x n. (neither (f x) (g x) n).0) xs h, told_weaker (λ x. option_or (f x) (g x)) g (λ x n. (neither (f x) (g x) n).1) xs h)

-- ---- unknown names

pub unknown_told : (known names : List Name) → first_unknown known names ≡ first_told (λ n. unless (has_name known n) n) names
unknown_told known [] = refl
unknown_told known (n ∷ names) = go (has_name known n) (unknown_told known names)
  where
    go : (b : Bool) → first_unknown known names ≡ first_told (λ n. unless (has_name known n) n) names →
        (if b then first_unknown known names else Some n) ≡ option_or (unless b n) (first_told (λ n. unless (has_name known n) n) names)
    go true h = h
    go false h = refl

pub unknown_append : (known xs ys : List Name) → first_unknown known (xs ++ ys) ≡ option_or (first_unknown known xs) (first_unknown known ys)
unknown_append known xs ys =
    unknown_told known (xs ++ ys) ∙ told_append (λ n. unless (has_name known n) n) xs ys ∙ (λ i. option_or (sym (unknown_told known xs) i) (sym (unknown_told known ys) i))

pub unknown_flat : {A : Type 0} (known : List Name) (g : A → List Name) (xs : List A) → first_unknown known (flat_map g xs) ≡ first_told (λ x. first_unknown known (g x)) xs
unknown_flat known g [] = refl
unknown_flat known g (x ∷ xs) = unknown_append known (g x) (flat_map g xs) ∙ ap (option_or (first_unknown known (g x))) (unknown_flat known g xs)

-- names are among themselves
among_from : (before names : List Name) → first_told (λ n. unless (has_name (before ++ names) n) n) names ≡ None
among_from before [] = refl
among_from before (n ∷ names) =
    let here : has_name (before ++ n ∷ names) n ≡ true = has_append before (n ∷ names) n ∙ ap (λ b. has_name before n || (b || has_name names n)) (same_name_itself n) ∙ last (has_name before n) in
    rw here (subst (λ l. first_told (λ m. unless (has_name l m) m) names ≡ None) (regrouped before) (among_from (before ++ n ∷ []) names))
  where
    last : (a : Bool) → (a || true) ≡ true
    last true = refl
    last false = refl

    regrouped : (xs : List Name) → (xs ++ n ∷ []) ++ names ≡ xs ++ n ∷ names
    regrouped [] = refl
    regrouped (x ∷ xs) = ap (λ l. x ∷ l) (regrouped xs)

pub among_themselves : (names : List Name) → first_told (λ n. unless (has_name names n) n) names ≡ None
among_themselves names = among_from [] names
