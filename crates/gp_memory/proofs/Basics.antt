-- Lemmas of truth values, options, lists and numbers that name nothing of GP 2, for the proofs of all crates.
use Rattle.std.proofs.Common.{[], Bool, Contains, IsSome, List, None, Option, Some, ap, arith, drop, false, get_or, inl, inr, length, map, option_and_then, refl, replicate, reverse, slice_get, slice_index, slice_set, subst, suc, sym, take, true, zero, ℕ, ◌++◌, ◌+◌, ◌-◌, ◌<◌, ◌||◌, ◌∙◌, ◌∷◌, ◌≡◌, ◌≤◌, ◌⊎◌}
use Rattle.std.proofs.Math.Dec.{T}
use Rattle.std.proofs.lemmas.Grind.{common_steps}
use Rattle.std.proofs.lemmas.List.{get_or_default, reverse-append}
use Rattle.std.proofs.lemmas.List.Elements.{Contains-append_right}
use Rattle.std.proofs.lemmas.List.Sums.{sum_by-cons}
use Rattle.std.proofs.lemmas.Option.{get_or_from_slice_get, none-some, same_Some, slice_get_within}
use Rattle.std.specs.List.{AllByRecursion}
use Rattle.std.specs.Option.{option_or}
use Rattle.std.specs.Prelude.{Err, IfOk, IfSome, IsSomeAnd, Ok, Result, nat_lt, not, sum_by, ◌&&◌}

-- ---- truth values

pub both : (a b : Bool) → (a && b) ≡ true → (a ≡ true) × (b ≡ true)
both true b h = (refl, h)
both false b h = absurd cc

pub and_right : (a b : Bool) → (a && b) ≡ true → b ≡ true
and_right true b h = h
and_right false b h = absurd cc

pub and_both : (s t : Bool) → s ≡ true → t ≡ true → (s && t) ≡ true
and_both true true e f = refl
and_both true false e f = absurd cc
and_both false t e f = absurd cc

pub and_left : (a b : Bool) → (a && b) ≡ true → a ≡ true
and_left true b h = refl
and_left false b h = absurd cc

pub not_true : (a : Bool) → not a ≡ true → a ≡ false
not_true true h = absurd cc
not_true false h = refl

pub or_right : (b c : Bool) → c ≡ true → (b || c) ≡ true
or_right true c e = refl
or_right false c e = e

pub not_false : (a : Bool) → not a ≡ false → a ≡ true
not_false true h = refl
not_false false h = absurd cc

pub no_both : (b : Bool) → b ≡ false → b ≡ true → ⊥
no_both b f t = subst (λ x. T (not x)) (sym f ∙ t) tt

pub false_or_true : (b : Bool) → (b ≡ false) ⊎ (b ≡ true)
false_or_true false = inl refl
false_or_true true = inr refl

pub both_true : (a b : Bool) → T a → T b → T (a && b)
both_true true b h k = k
both_true false b h k = absurd h

pub first_of : (a b : Bool) → T (a && b) → T a
first_of true b h = tt
first_of false b h = h

pub second_of : (a b : Bool) → T (a && b) → T b
second_of true b h = h
second_of false b h = absurd h

pub not_less : (k : ℕ) → nat_lt k k ≡ false
not_less k = grind (arith, common_steps)

pub lt_true : (a n : ℕ) → a < n → nat_lt a n ≡ true
lt_true a n h = grind (arith, common_steps)

pub or_cases : (a b : Bool) → (a || b) ≡ true → (a ≡ true) ⊎ (b ≡ true)
or_cases true b h = inl refl
or_cases false b h = inr h

pub or_left : (a b : Bool) → a ≡ true → (a || b) ≡ true
or_left true b h = refl
or_left false b h = absurd cc

pub which : (b : Bool) → (b ≡ true) ⊎ (b ≡ false)
which true = inl refl
which false = inr refl

-- ---- options

pub some_same : {X : Type 0} {x y : X} → Some x ≡ Some y → x ≡ y
some_same e = cc

pub not_there : {X : Type 0} (o : Option X) → (IsSome o → ⊥) → o ≡ None
not_there None h = refl
not_there (Some x) h = absurd (h refl)

pub or_assoc : {A : Type 0} (a b c : Option A) → option_or (option_or a b) c ≡ option_or a (option_or b c)
or_assoc None b c = refl
or_assoc (Some x) b c = refl

pub is_some_of : {X : Type 0} (o : Option X) (x : X) → o ≡ Some x → IsSome o
is_some_of o x e = subst (λ (z : Option _). IsSome z) (sym e) refl

pub some_is : {X : Type 0} (a b : X) → Some a ≡ Some b → a ≡ b
some_is a b e = cc

pub and_is_some : {X : Type 0} (o : Option X) (P : X → Type 0) → IsSomeAnd o P → IsSome o
and_is_some None P h = absurd h
and_is_some (Some x) P h = refl

pub neither : {A : Type 0} (a b : Option A) → option_or a b ≡ None → (a ≡ None) × (b ≡ None)
neither None b h = (refl, h)
neither (Some x) b h = absurd cc

pub some_and : {X : Type 0} (o : Option X) (P : X → Type 0) → IsSomeAnd o P → (x : X) × (o ≡ Some x) × P x
some_and None P h = absurd h
some_and (Some x) P h = (x, refl, h)

pub some_more : {A : Type 0} (o : Option A) (P Q : A → Type 0) → ((x : A) → P x → Q x) → IsSomeAnd o P → IsSomeAnd o Q
some_more None P Q f h = absurd h
some_more (Some x) P Q f h = f x h

pub some_map : {A : Type 0} (o : Option A) (P Q : A → Type 0) → ((x : A) → P x → Q x) → IfSome o P → IfSome o Q
some_map None P Q f h = tt
some_map (Some x) P Q f h = f x h

pub first_step : {X Y : Type 0} (f : X → Option Y) (o : Option X) (y : Y) → option_and_then f o ≡ Some y → (x : X) × (o ≡ Some x) × (f x ≡ Some y)
first_step f None y e = absurd (none-some y e)
first_step f (Some x) y e = (x, refl, e)

pub and_some : {X : Type 0} (o : Option X) (P : X → Type 0) (x : X) → o ≡ Some x → P x → IsSomeAnd o P
and_some o P x e h = subst (λ (z : Option _). IsSomeAnd z P) (sym e) h

pub or_none : {A : Type 0} (a : Option A) → option_or a None ≡ a
or_none None = refl
or_none (Some x) = refl

pub some_there : {X : Type 0} (o : Option X) → IsSome o → (x : X) × (o ≡ Some x)
some_there None s = absurd cc
some_there (Some x) s = (x, refl)

pub taken : {T E : Type 0} {P Q : T → Type 0} (r : Result T E) → ((x : T) → P x → Q x) → IfOk r P → IfOk r Q
taken (Ok x) f h = f x h
taken (Err e) f h = tt

-- ---- lists

pub some_at : {A : Type 0} (xs : List A) (i : ℕ) → i < length xs → (x : A) × (slice_get xs i ≡ Some x)
some_at [] i h = absurd (omega arith)
some_at (x ∷ xs) zero h = (x, refl)
some_at (x ∷ xs) (suc i) h = some_at xs i (omega arith)

pub first_or_later_from : (y : ℕ) (ys : List ℕ) (k i : ℕ) → i < length (y ∷ ys) → get_or (y ∷ ys) i k ≡ k → (y ≡ k) ⊎ Contains ys k
first_or_later_from y ys k zero b e = inl e
first_or_later_from y ys k (suc i) b e = inr (i, omega arith, e)

pub take_whole : {X : Type 0} (xs : List X) → take (length xs) xs ≡ xs
take_whole [] = refl
take_whole (x ∷ xs) = ap (λ (l : List _). x ∷ l) (take_whole xs)

pub later : (t : ℕ) (ts : List ℕ) (n : ℕ) → Contains ts n → Contains (t ∷ ts) n
later t ts n c = let l : c.0 < length ts = c.1 in (suc c.0, omega arith, c.2)

pub here : (t : ℕ) (ts : List ℕ) (n : ℕ) → t ≡ n → Contains (t ∷ ts) n
here t ts n e = (0, omega arith, e)

pub first_or_later : (t : ℕ) (ts : List ℕ) (n : ℕ) → Contains (t ∷ ts) n → (t ≡ n) ⊎ Contains ts n
first_or_later t ts n c = by c.0 c.1 c.2
  where
    by : (k : ℕ) → k < length (t ∷ ts) → get_or (t ∷ ts) k n ≡ n → (t ≡ n) ⊎ Contains ts n
    by zero l e = inl e
    by (suc k) l e = inr (k, omega arith, e)

pub standing : (ns : List ℕ) (n : ℕ) (c : Contains ns n) → slice_index ns c.0 ≡ n
standing ns n c = get_or_default ns c.0 0 n c.1 ∙ c.2

pub get_any : {X : Type 0} (xs : List X) (n : ℕ) (d e : X) → n < length xs → get_or xs n d ≡ get_or xs n e
get_any [] n d e l = absurd (omega arith)
get_any (x ∷ xs) zero d e l = refl
get_any (x ∷ xs) (suc n) d e l = get_any xs n d e (omega arith)

pub within_of : {A : Type 0} (xs : List A) (i : ℕ) (x : A) → slice_get xs i ≡ Some x → i < length xs
within_of [] i x h = absurd (none-some x h)
within_of (y ∷ xs) zero x h = omega arith
within_of (y ∷ xs) (suc i) x h = let k = within_of xs i x h in omega arith

pub none_yet : {A : Type 0} (n i : ℕ) (x : A) → slice_get (replicate n None) i ≡ Some (Some x) → ⊥
none_yet zero i x h = none-some (Some x) h
none_yet (suc n) zero x h = none-some x (same_Some None (Some x) h)
none_yet (suc n) (suc i) x h = none_yet n i x h

pub sums_same : {X Y : Type 0} (f h : X → ℕ) (j k : Y → ℕ) (xs : List X) (ys : List Y) → length xs ≡ length ys
    → ((i : ℕ) (x : X) (y : Y) → slice_get xs i ≡ Some x → slice_get ys i ≡ Some y → f x + h x ≡ j y + k y) → sum_by f xs + sum_by h xs ≡ sum_by j ys + sum_by k ys
sums_same f h j k [] [] e same = refl
sums_same f h j k [] (y ∷ ys) e same = absurd (omega arith)
sums_same f h j k (x ∷ xs) [] e same = absurd (omega arith)
sums_same f h j k (x ∷ xs) (y ∷ ys) e same =
    let here = same 0 x y refl refl in
    let rest = sums_same f h j k xs ys (omega arith) (λ i a b s t. same (suc i) a b s t) in
    let a = sum_by-cons f x xs in
    let b = sum_by-cons h x xs in
    let c = sum_by-cons j y ys in
    let d = sum_by-cons k y ys in
    omega arith

pub take_front : {X : Type 0} (xs zs : List X) → take (length xs) (xs ++ zs) ≡ xs
take_front [] zs = refl
take_front (x ∷ xs) zs = ap (λ (l : List _). x ∷ l) (take_front xs zs)

pub take_long : {X : Type 0} (n : ℕ) (xs : List X) → length xs ≤ n → take n xs ≡ xs
take_long zero [] l = refl
take_long zero (x ∷ xs) l = absurd (omega arith)
take_long (suc n) [] l = refl
take_long (suc n) (x ∷ xs) l = ap (λ (k : List _). x ∷ k) (take_long n xs (omega arith))

pub set_back : {X : Type 0} (xs : List X) (i : ℕ) (y n : X) → slice_get xs i ≡ Some n → slice_set (slice_set xs i y) i n ≡ xs
set_back [] i y n e = absurd (none-some n e)
set_back (x ∷ xs) zero y n e = ap (λ z. z ∷ xs) (sym (same_Some x n e))
set_back (x ∷ xs) (suc i) y n e = ap (λ z. x ∷ z) (set_back xs i y n e)

pub map_append : {A B : Type 0} (f : A → B) (xs ys : List A) → map f (xs ++ ys) ≡ map f xs ++ map f ys
map_append f [] ys = refl
map_append f (x ∷ xs) ys = ap (λ l. f x ∷ l) (map_append f xs ys)

pub append_none : {A : Type 0} (xs : List A) → xs ++ [] ≡ xs
append_none [] = refl
append_none (x ∷ xs) = ap (λ l. x ∷ l) (append_none xs)

pub drop_suc : {A : Type 0} (xs : List A) (k : ℕ) (x : A) → slice_get xs k ≡ Some x → drop k xs ≡ x ∷ drop (suc k) xs
drop_suc [] k x h = absurd cc
drop_suc (y ∷ xs) zero x h = let e : y ≡ x = cc in ap (λ z. z ∷ xs) e
drop_suc (y ∷ xs) (suc k) x h = drop_suc xs k x h

pub at_head : {X : Type 0} (x : X) (xs : List X) → Contains (x ∷ xs) x
at_head x xs = (0, (let l : 0 < suc (length xs) = omega arith in l), refl)

pub in_tail : {X : Type 0} (x y : X) (xs : List X) → Contains xs y → Contains (x ∷ xs) y
in_tail x y xs c = Contains-append_right (x ∷ []) xs y c

pub is_among : {X : Type 0} (xs : List X) (i : ℕ) (x : X) → slice_get xs i ≡ Some x → Contains xs x
is_among xs i x e = (i, slice_get_within xs i x e, get_or_from_slice_get xs i x x e)

pub append_again : {X : Type 0} (xs ys zs : List X) → (xs ++ ys) ++ zs ≡ xs ++ (ys ++ zs)
append_again [] ys zs = refl
append_again (x ∷ xs) ys zs = ap (λ l. x ∷ l) (append_again xs ys zs)

pub last_first : {X : Type 0} (xs : List X) (x : X) → reverse (xs ++ x ∷ []) ≡ x ∷ reverse xs
last_first xs x = reverse-append xs (x ∷ [])

pub take_short : {X : Type 0} (n : ℕ) (xs ys : List X) → n ≤ length xs → take n (xs ++ ys) ≡ take n xs
take_short zero xs ys h = refl
take_short (suc n) [] ys h = absurd (omega arith)
take_short (suc n) (x ∷ xs) ys h = ap (λ l. x ∷ l) (take_short n xs ys (omega arith))

pub take_none : {X : Type 0} (n : ℕ) → take {A = X} n [] ≡ []
take_none zero = refl
take_none (suc n) = refl

pub from_map : {X Y : Type 0} (f : X → Y) (xs : List X) (i : ℕ) (y : Y) → slice_get (map f xs) i ≡ Some y → (x : X) × (slice_get xs i ≡ Some x) × (f x ≡ y)
from_map f [] i y e = absurd (none-some y e)
from_map f (x ∷ xs) zero y e = (x, refl, same_Some (f x) y e)
from_map f (x ∷ xs) (suc i) y e = from_map f xs i y e

pub maps_twice : {A B C : Type 0} (f : B → C) (g : A → B) (xs : List A) → map f (map g xs) ≡ map (λ x. f (g x)) xs
maps_twice f g [] = refl
maps_twice f g (x ∷ xs) = ap (λ l. f (g x) ∷ l) (maps_twice f g xs)

pub all_append : {A : Type 0} (P : A → Type 0) (xs ys : List A) → AllByRecursion P xs → AllByRecursion P ys → AllByRecursion P (xs ++ ys)
all_append P [] ys h k = k
all_append P (x ∷ xs) ys h k = (h.0, all_append P xs ys h.1 k)

pub none_in : (n : ℕ) → Contains [] n → ⊥
none_in n c = let l : c.0 < 0 = c.1 in omega arith

pub stands_in : (ns : List ℕ) (i n : ℕ) → i < length ns → slice_index ns i ≡ n → Contains ns n
stands_in ns i n l e = (i, l, sym (get_or_default ns i 0 n l) ∙ e)

pub map_push : {A B : Type 0} (f : A → B) (xs : List A) (x : A) → map f (xs ++ x ∷ []) ≡ map f xs ++ f x ∷ []
map_push f [] x = refl
map_push f (y ∷ xs) x = ap (λ l. f y ∷ l) (map_push f xs x)

pub take_past : {X : Type 0} (xs : List X) (k : ℕ) → length xs ≤ k → take k xs ≡ xs
take_past [] zero h = refl
take_past [] (suc k) h = refl
take_past (x ∷ xs) zero h = absurd (omega arith)
take_past (x ∷ xs) (suc k) h = ap (λ l. x ∷ l) (take_past xs k (omega arith))

-- ---- numbers

pub exchanged : {a b c d : ℕ} → a ≡ c → b ≡ d → c + d ≡ b + a
exchanged h k = omega arith

pub straight : {a b c d : ℕ} → a ≡ c → b ≡ d → d + c ≡ b + a
straight h k = omega arith

pub one_less : (n k : ℕ) → (n + 1) - suc k ≡ n - k
one_less n k = omega arith

pub less_none : (n : ℕ) → n - 0 ≡ n
less_none n = omega arith

pub no_more : (n k : ℕ) → n - k ≤ n
no_more n k = omega arith

pub one_more : (n k : ℕ) → (n + 1) + k ≡ n + suc k
one_more n k = omega arith

pub nothing_more : (n : ℕ) → n + 0 ≡ n
nothing_more n = omega arith

pub less_one : (n : ℕ) → n + 1 - 1 ≡ n
less_one n = omega arith
