-- What is read has the shape, and what has the shape is read: once for each part that grammars are made of.
use Rattle.std.proofs.Common.{◌≡◌, ℕ, zero, suc, ◌≤◌, Bool, true, false, List, [], ◌∷◌, length, Option, Some, None, refl, subst, arith}
use Rattle.std.specs.Prelude.{if◌then◌else◌, option_map}
use Rattle.gp_memory.proofs.Basics.{some_is}
use Rattle.gp_tokens.specs.declared.token.Kind.TheVariants as k
use Rattle.gp_tokens.specs.declared.token.Token.{Token}
use Rattle.gp_tokens.specs.Numbers.{checked_number}
use Rattle.gp_tokens.specs.declared.want.Want.{Want}
use Rattle.gp_tokens.specs.declared.want.Want.TheVariants as wants
use Rattle.gp_tokens.specs.Wants.{meets, excludes}
use Rattle.gp_tokens.specs.Shape.{Shape, Is, IsNumber, ◌then◌, Made, Either, one, other, Absent, absent, Many, none, more, second_of, list_of, Separated}
use Rattle.gp_tokens.specs.Ahead.{◌>>=◌}
use Rattle.gp_tokens.specs.Reading.{Reader, token, begins, number, ◌and◌, made, at, many, repeated, separated}
use Rattle.gp_tokens.specs.Reading as r
use Rattle.gp_tokens.specs.GrammarLaws.{Sound, Again, Anything, Comes, No, Begins, NeverBegins, Shrinks, Keeps}
use Rattle.gp_tokens.proofs.Wants.{excluded}

pub bind_some : {A B : Type 0} (o : Option A) (f : A → Option B) (y : B) → (o >>= f) ≡ Some y → (x : A) × (o ≡ Some x) × (f x ≡ Some y)
bind_some None f y h = absurd cc
bind_some (Some x) f y h = (x, refl, h)

-- ---- what is read has the shape

if_some : {A : Type 0} (b : Bool) (x y : A) → (if b then Some x else None) ≡ Some y → (b ≡ true) × (x ≡ y)
if_some true x y h = (refl, some_is x y h)
if_some false x y h = absurd cc

pub token_sound : (want : Want) → Sound (token want) (Is want)
token_sound want [] x h = absurd cc
token_sound want (t ∷ ts) x h =
    let a = if_some (meets want t) (t, ts) x h in
    subst (λ (y : Token × List Token). Is want (t ∷ ts) y.1 y.0) a.1 (record { front = refl; is = a.0 })

pub number_sound : Sound number IsNumber
number_sound ts x h =
    let a = bind_some (token (wants.Kind k.Number) ts) (λ x. option_map (λ value. (value, x.1)) (checked_number x.0.text)) x h in
    go a.0 (token_sound (wants.Kind k.Number) ts a.0 a.1) (checked_number a.0.0.text) refl a.2
  where
    go : (y : Token × List Token) → Is (wants.Kind k.Number) ts y.1 y.0 → (o : Option ℕ) → checked_number y.0.text ≡ o → option_map (λ value. (value, y.1)) o ≡ Some x → IsNumber ts x.1 x.0
    go y p None e h = absurd cc
    go y p (Some value) e h = subst (λ (z : ℕ × List Token). IsNumber ts z.1 z.0) (some_is (value, y.1) x h) (record { token = y.0; is = p; value_is = e })

pub and_sound : {A B : Type 0} (r : Reader A) (s : Reader B) (R : Shape A) (S : Shape B) → Sound r R → Sound s S → Sound (r and s) (R then S)
and_sound r s R S p q ts x h =
    let a = bind_some (r ts) (λ x. s x.1 >>= λ y. Some ((x.0, y.0), y.1)) x h in
    let b = bind_some (s a.0.1) (λ y. Some ((a.0.0, y.0), y.1)) x a.2 in
    subst (λ (y : _ × List Token). (R then S) ts y.1 y.0) (some_is _ _ b.2) (record { mid = a.0.1; first = p ts a.0 a.1; second = q a.0.1 b.0 b.1 })

pub made_sound : {A B : Type 0} (f : A → B) (r : Reader A) (R : Shape A) → Sound r R → Sound (made f r) (Made f R)
made_sound f r R p ts x h =
    let a = bind_some (r ts) (λ x. Some (f x.0, x.1)) x h in
    subst (λ (y : _ × List Token). Made f R ts y.1 y.0) (some_is _ _ a.2) (record { of = a.0.0; shape = p ts a.0 a.1; made = refl })

pub at_sound : {A : Type 0} (want : Want) (r s : Reader A) (R S : Shape A) → Sound r R → Sound s S → Sound (at want r s) (Either R S)
at_sound {A} want r s R S p q ts x h = go (begins want ts) h
  where
    go : (b : Bool) → (if b then r ts else s ts) ≡ Some x → Either R S ts x.1 x.0
    go true h = one (p ts x h)
    go false h = other (q ts x h)

pub absent_sound : {A : Type 0} (y : A) → Sound (r.absent y) (Absent y)
absent_sound y ts x h = subst (λ (z : _ × List Token). Absent y ts z.1 z.0) (some_is (y, ts) x h) absent

pub many_sound : {A : Type 0} (want : Want) (r : Reader A) (R : Shape A) → Sound r R → (n : ℕ) → Sound (many want r n) (Many R)
unfolding many
many_sound want r R p zero ts x h = subst (λ (z : List _ × List Token). Many R ts z.1 z.0) (some_is ([], ts) x h) none
many_sound {A} want r R p (suc n) ts x h = go (λ ts x h. many_sound want r R p n ts x h) (begins want ts) h
  where
    go : Sound (many want r n) (Many R) → (b : Bool) → (if b then (r ts >>= λ x. many want r n x.1 >>= λ xs. Some (x.0 ∷ xs.0, xs.1)) else Some ([], ts)) ≡ Some x → Many R ts x.1 x.0
    go below true h =
        let a = bind_some (r ts) (λ x. many want r n x.1 >>= λ xs. Some (x.0 ∷ xs.0, xs.1)) x h in
        let b = bind_some (many want r n a.0.1) (λ xs. Some (a.0.0 ∷ xs.0, xs.1)) x a.2 in
        subst (λ (z : List A × List Token). Many R ts z.1 z.0) (some_is _ _ b.2) (more (p ts a.0 a.1) (below a.0.1 b.0 b.1))
    go below false h = subst (λ (z : List A × List Token). Many R ts z.1 z.0) (some_is ([], ts) x h) none

pub repeated_sound : {A : Type 0} (want : Want) (r : Reader A) (R : Shape A) → Sound r R → Sound (repeated want r) (Many R)
repeated_sound want r R p ts x h = many_sound want r R p (length ts) ts x h

pub separated_sound : {A : Type 0} (sign : Want) (r : Reader A) (R : Shape A) → Sound r R → Sound (separated sign r) (Separated sign R)
separated_sound sign r R p =
    made_sound list_of _ _ (and_sound _ _ _ _ p (repeated_sound sign _ _ (made_sound second_of _ _ (and_sound _ _ _ _ (token_sound sign) p))))

-- ---- the first token

pub token_begins : (want : Want) → Begins want (Is want)
token_begins want ts rest x p = record { comes = rw (p.front, p.is) refl }

pub number_begins : Begins (wants.Kind k.Number) IsNumber
number_begins ts rest x p = token_begins (wants.Kind k.Number) ts rest p.token p.is

pub then_begins : {A B : Type 0} (want : Want) (R : Shape A) (S : Shape B) → Begins want R → Begins want (R then S)
then_begins want R S p ts rest x h = p ts h.mid x.0 h.first

pub made_begins : {A B : Type 0} (want : Want) (f : A → B) (R : Shape A) → Begins want R → Begins want (Made f R)
made_begins want f R p ts rest y h = p ts rest h.of h.shape

pub either_begins : {A : Type 0} (want : Want) (R S : Shape A) → Begins want R → Begins want S → Begins want (Either R S)
either_begins want R S p q ts rest x (one h) = p ts rest x h
either_begins want R S p q ts rest x (other h) = q ts rest x h

excluded_front : (a b : Want) → excludes a b ≡ true → (ts : List Token) → Comes a ts → No b ts
excluded_front a b e [] h = record { none = refl }
excluded_front a b e (t ∷ ts) h = record { none = excluded a b t e h.comes }

pub begins_never : {A : Type 0} (a b : Want) (R : Shape A) (F : List Token → Type 0) → excludes a b ≡ true → Begins a R → NeverBegins b R F
begins_never a b R F e p ts rest x h f = excluded_front a b e ts (p ts rest x h)

pub then_never : {A B : Type 0} (want : Want) (R : Shape A) (S : Shape B) (F : List Token → Type 0) → NeverBegins want R (No want) → NeverBegins want S F → NeverBegins want (R then S) F
then_never want R S F p q ts rest x h f = p ts h.mid x.0 h.first (q h.mid rest x.1 h.second f)

pub made_never : {A B : Type 0} (want : Want) (f : A → B) (R : Shape A) (F : List Token → Type 0) → NeverBegins want R F → NeverBegins want (Made f R) F
made_never want f R F p ts rest y h e = p ts rest h.of h.shape e

pub either_never : {A : Type 0} (want : Want) (R S : Shape A) (F : List Token → Type 0) → NeverBegins want R F → NeverBegins want S F → NeverBegins want (Either R S) F
either_never want R S F p q ts rest x (one h) e = p ts rest x h e
either_never want R S F p q ts rest x (other h) e = q ts rest x h e

pub absent_never : {A : Type 0} (want : Want) (y : A) → NeverBegins want (Absent y) (No want)
absent_never want y ts _ _ absent e = e

pub many_never : {A : Type 0} (want : Want) (R : Shape A) → NeverBegins want R Anything → NeverBegins want (Many R) (No want)
many_never want R p ts _ _ none e = e
many_never want R p ts rest _ (more {mid = mid} {x = x} h hs) e = p ts mid x h tt

pub separated_begins : {A : Type 0} (want sign : Want) (R : Shape A) → Begins want R → Begins want (Separated sign R)
separated_begins want sign R p = made_begins want list_of _ (then_begins want R _ p)

pub separated_never : {A : Type 0} (want sign : Want) (R : Shape A) (F : List Token → Type 0) → NeverBegins want R Anything → NeverBegins want (Separated sign R) F
separated_never want sign R F p ts rest x h f = p ts h.shape.mid h.of.0 h.shape.first tt

-- ---- what has the shape is read, before what may follow it

pub token_again : (want : Want) → Again (token want) (Is want) Anything
token_again want ts rest x p h = rw (p.front, p.is) refl

pub number_again : Again number IsNumber Anything
number_again ts rest x p h = rw (token_again (wants.Kind k.Number) ts rest p.token p.is tt, p.value_is) refl

pub and_again : {A B : Type 0} (r : Reader A) (s : Reader B) (R : Shape A) (S : Shape B) (E F : List Token → Type 0)
    → Again r R E → Again s S F → ((mid rest : List Token) (y : B) → S mid rest y → F rest → E mid) → Again (r and s) (R then S) F
and_again r s R S E F p q follows ts rest x h f =
    rw (p ts h.mid x.0 h.first (follows h.mid rest x.1 h.second f), q h.mid rest x.1 h.second f) refl

-- where anything may follow the first
pub then_again : {A B : Type 0} (r : Reader A) (s : Reader B) (R : Shape A) (S : Shape B) (F : List Token → Type 0) → Again r R Anything → Again s S F → Again (r and s) (R then S) F
then_again r s R S F p q = and_again r s R S Anything F p q (λ _ _ _ _ _. tt)

pub made_again : {A B : Type 0} (f : A → B) (r : Reader A) (R : Shape A) (E : List Token → Type 0) → Again r R E → Again (made f r) (Made f R) E
made_again f r R E p ts rest y h e = rw (p ts rest h.of h.shape e, h.made) refl

pub at_again : {A : Type 0} (want : Want) (r s : Reader A) (R S : Shape A) (E : List Token → Type 0) → Again r R E → Again s S E → Begins want R → NeverBegins want S E → Again (at want r s) (Either R S) E
at_again want r s R S E p q here away ts rest x (one h) e = rw ((here ts rest x h).comes) (p ts rest x h e)
at_again want r s R S E p q here away ts rest x (other h) e = rw ((away ts rest x h e).none) (q ts rest x h e)

pub absent_again : {A : Type 0} (y : A) (E : List Token → Type 0) → Again (r.absent y) (Absent y) E
absent_again y E ts _ _ absent e = refl

-- what is read before anything is read before less
pub weaker : {A : Type 0} (r : Reader A) (R : Shape A) (E F : List Token → Type 0) → ((rest : List Token) → F rest → E rest) → Again r R E → Again r R F
weaker r R E F less p ts rest x h f = p ts rest x h (less rest f)

pub before_less : {A : Type 0} (r : Reader A) (R : Shape A) (F : List Token → Type 0) → Again r R Anything → Again r R F
before_less r R F p ts rest x h f = p ts rest x h tt

-- ---- the tokens get fewer

pub token_shrinks : (want : Want) → Shrinks (Is want)
token_shrinks want ts rest x p = rw p.front (omega arith)

pub number_shrinks : Shrinks IsNumber
number_shrinks ts rest x p = token_shrinks (wants.Kind k.Number) ts rest p.token p.is

pub then_shrinks : {A B : Type 0} (R : Shape A) (S : Shape B) → Shrinks R → Keeps S → Shrinks (R then S)
then_shrinks R S p q ts rest x h = omega (arith, p ts h.mid x.0 h.first, q h.mid rest x.1 h.second)

pub made_shrinks : {A B : Type 0} (f : A → B) (R : Shape A) → Shrinks R → Shrinks (Made f R)
made_shrinks f R p ts rest y h = p ts rest h.of h.shape

pub either_shrinks : {A : Type 0} (R S : Shape A) → Shrinks R → Shrinks S → Shrinks (Either R S)
either_shrinks R S p q ts rest x (one h) = p ts rest x h
either_shrinks R S p q ts rest x (other h) = q ts rest x h

pub shrinks_keeps : {A : Type 0} (R : Shape A) → Shrinks R → Keeps R
shrinks_keeps R p ts rest x h = omega (arith, p ts rest x h)

pub then_keeps : {A B : Type 0} (R : Shape A) (S : Shape B) → Keeps R → Keeps S → Keeps (R then S)
then_keeps R S p q ts rest x h = omega (arith, p ts h.mid x.0 h.first, q h.mid rest x.1 h.second)

pub made_keeps : {A B : Type 0} (f : A → B) (R : Shape A) → Keeps R → Keeps (Made f R)
made_keeps f R p ts rest y h = p ts rest h.of h.shape

pub either_keeps : {A : Type 0} (R S : Shape A) → Keeps R → Keeps S → Keeps (Either R S)
either_keeps R S p q ts rest x (one h) = p ts rest x h
either_keeps R S p q ts rest x (other h) = q ts rest x h

pub absent_keeps : {A : Type 0} (y : A) → Keeps (Absent y)
absent_keeps y ts _ _ absent = omega arith

pub many_keeps : {A : Type 0} (R : Shape A) → Keeps R → Keeps (Many R)
many_keeps R p ts _ _ none = omega arith
many_keeps R p ts rest _ (more {mid = mid} {x = x} {xs = xs} h hs) = omega (arith, p ts mid x h, many_keeps R p mid rest xs hs)

pub separated_keeps : {A : Type 0} (sign : Want) (R : Shape A) → Keeps R → Keeps (Separated sign R)
separated_keeps sign R p = made_keeps list_of _ (then_keeps R _ p (many_keeps _ (made_keeps second_of _ (then_keeps _ R (shrinks_keeps _ (token_shrinks sign)) p))))

pub separated_shrinks : {A : Type 0} (sign : Want) (R : Shape A) → Shrinks R → Shrinks (Separated sign R)
separated_shrinks sign R p = made_shrinks list_of _ (then_shrinks R _ p (many_keeps _ (made_keeps second_of _ (then_keeps _ R (shrinks_keeps _ (token_shrinks sign)) (shrinks_keeps R p)))))

-- ---- many

-- the last of many comes before what follows them, and each other before one more
many_again : {A : Type 0} (want : Want) (r : Reader A) (R : Shape A) (E : List Token → Type 0) → Again r R E → ((ts rest : List Token) (x : A) → R ts rest x → E ts) → Begins want R → Shrinks R
    → (n : ℕ) (ts rest : List Token) (xs : List A) → Many R ts rest xs → (No want rest) × (E rest) → length ts ≤ n → many want r n ts ≡ Some (xs, rest)
unfolding many
many_again want r R E p next b s zero ts rest _ none e fits = refl
many_again want r R E p next b s (suc n) ts rest _ none e fits = rw (e.0.none) refl
many_again want r R E p next b s zero ts rest _ (more h hs) e fits = absurd (omega (arith, s _ _ _ h))
many_again want r R E p next b s (suc n) ts rest _ (more {mid = mid} {x = x} {xs = xs} h hs) e fits =
    rw ((b ts mid x h).comes, p ts mid x h (follow mid rest xs hs e.1), many_again want r R E p next b s n mid rest xs hs e (omega (arith, s _ _ _ h))) refl
  where
    follow : (mid rest : List Token) (xs : List _) → Many R mid rest xs → E rest → E mid
    follow mid _ _ none f = f
    follow mid rest _ (more h hs) f = next _ _ _ h

pub repeated_again : {A : Type 0} (want : Want) (r : Reader A) (R : Shape A) (E : List Token → Type 0) → Again r R E → ((ts rest : List Token) (x : A) → R ts rest x → E ts) → Begins want R → Shrinks R
    → Again (repeated want r) (Many R) (λ rest. (No want rest) × (E rest))
repeated_again want r R E p next b s ts rest xs h e = many_again want r R E p next b s (length ts) ts rest xs h e (omega arith)

pub separated_again : {A : Type 0} (sign : Want) (r : Reader A) (R : Shape A) (E : List Token → Type 0) → Again r R E → ((ts rest : List Token) (x : Token × A) → (Is sign then R) ts rest x → E ts) → Keeps R
    → Again (separated sign r) (Separated sign R) (λ rest. (No sign rest) × (E rest))
separated_again sign r R E p next keeps =
    let E' : List Token → Type 0 = λ rest. (No sign rest) × (E rest) in
    let part = Made second_of (Is sign then R) in
    let follows : (mid rest : List Token) (xs : List _) → Many part mid rest xs → E' rest → E mid = λ mid rest xs h e. go mid rest xs h e.1 in
    made_again list_of _ _ E' (and_again _ _ _ _ E E' p
    (repeated_again sign _ _ E (made_again second_of _ _ E (then_again _ _ _ _ E (token_again sign) p)) (λ ts rest y h. next ts rest h.of h.shape)
    (made_begins sign _ _ (then_begins sign _ _ (token_begins sign))) (made_shrinks _ _ (then_shrinks _ _ (token_shrinks sign) keeps)))
    follows)
  where
    go : (mid rest : List Token) (xs : List _) → Many (Made second_of (Is sign then R)) mid rest xs → E rest → E mid
    go mid _ _ none e = e
    go mid rest _ (more h hs) e = next mid _ h.of h.shape
