-- The first name that is told.
use Rattle.std.proofs.Common.{◌≡◌, ℕ, suc, ◌+◌, ◌<◌, ◌≤◌, true, false, List, drop, length, get_or, Option, Some, None, option_map, is_some, refl, sym, ap, ◌∙◌, arith}
use Rattle.std.specs.Option.{option_or}
use Rattle.std.proofs.Math.Seq.{drop-cons}
use Rattle.std.proofs.Math.ListN.{drop_of_length-le}
use Rattle.gp_values.specs.Names.{Name}
use Rattle.gp_scope.specs.Fault.{first_told}

pub some_told : {X : Type 0} (o : Option X) (f : X → Name) (r : Option Name) → is_some o ≡ true → option_or (option_map f o) r ≡ option_map f o
some_told (Some x) f r e = refl
some_told None f r e = cc

pub none_told : {X : Type 0} (o : Option X) (f : X → Name) (r : Option Name) → is_some o ≡ false → option_or (option_map f o) r ≡ r
none_told (Some x) f r e = cc
none_told None f r e = refl

pub told_together : (a b c : Option Name) → option_or (option_or a b) c ≡ option_or a (option_or b c)
told_together (Some x) b c = refl
told_together None b c = refl

-- from a place on
pub told_from : {A : Type 0} (f : A → Option Name) (xs : List A) (i : ℕ) (x : A) → i < length xs → x ≡ get_or xs i x → first_told f (drop i xs) ≡ option_or (f x) (first_told f (drop (i + 1) xs))
told_from f xs i x lt e =
    let next : suc i ≡ i + 1 = omega arith in
    ap (first_told f) (drop-cons xs i x lt) ∙ ap (λ y. option_or (f y) (first_told f (drop (suc i) xs))) (sym e) ∙ ap (λ n. option_or (f x) (first_told f (drop n xs))) next

pub told_past : {A : Type 0} (f : A → Option Name) (xs : List A) (i : ℕ) → length xs ≤ i → first_told f (drop i xs) ≡ None
told_past f xs i le = ap (first_told f) (drop_of_length-le xs le)
