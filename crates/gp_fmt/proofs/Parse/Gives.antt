-- What holds of the trees that are read of tokens that are spelled as those of a text.
use Rattle.std.proofs.Common.{◌≡◌, true, List, [], ◌∷◌, subst, sym}
use Rattle.std.specs.List.{AllByRecursion}
use Rattle.gp_tokens.specs.declared.token.Token.{Token}
use Rattle.gp_tokens.specs.declared.want.Want.{Want}
use Rattle.gp_tokens.specs.Wants.{meets}
use Rattle.gp_tokens.specs.Grammar.{Grammar, shape_of}
use Rattle.gp_tokens.specs.Grammar as grammar
use Rattle.gp_tokens.specs.Shape.{Shape, Is, ◌then◌, Made, Either, one, other, Absent, absent, Many, none, more, Separated, second_of, list_of}
use Rattle.gp_fmt.specs.inside.Spelled.{IsSpelledToken}
use Rattle.gp_fmt.proofs.Parse.Printed.{Anything}

abbrev pub AreSpelled : List Token → Type 0
AreSpelled ts = AllByRecursion IsSpelledToken ts

abbrev pub Gives : {A : Type 0} → Shape A → (A → Type 0) → Type 0
Gives {A} R P = (ts rest : List Token) (x : A) → AreSpelled ts → R ts rest x → P x × AreSpelled rest

-- a token as it is wanted
pub record IsFound (want : Want) (t : Token) : Type 0 where
  pub meets : meets want t ≡ true
  pub spelled : IsSpelledToken t

pub token_gives : (want : Want) → Gives (Is want) (IsFound want)
token_gives want ts rest x s h = let c : AreSpelled (x ∷ rest) = subst AreSpelled h.front s in (record { meets = h.is; spelled = c.0 }, c.1)

pub any_token : (want : Want) → Gives (Is want) Anything
any_token want ts rest x s h = (tt, (token_gives want ts rest x s h).1)

pub then_gives : {A B : Type 0} (R : Shape A) (S : Shape B) (P : A → Type 0) (Q : B → Type 0) → Gives R P → Gives S Q → Gives (R then S) (λ x. P x.0 × Q x.1)
then_gives R S P Q f g ts rest x s h =
    let a = f ts h.mid x.0 s h.first in
    let b = g h.mid rest x.1 a.1 h.second in
    ((a.0, b.0), b.1)

-- behind a token of which nothing is kept
pub behind_gives : {B : Type 0} (want : Want) (S : Shape B) (Q : B → Type 0) → Gives S Q → Gives (Is want then S) (λ x. Q x.1)
behind_gives want S Q g ts rest x s h = g h.mid rest x.1 (token_gives want ts h.mid x.0 s h.first).1 h.second

pub made_gives : {A B : Type 0} (f : A → B) (R : Shape A) (P : A → Type 0) (Q : B → Type 0) → ((x : A) → P x → Q (f x)) → Gives R P → Gives (Made f R) Q
made_gives f R P Q into g ts rest y s h = let a = g ts rest h.of s h.shape in (subst Q (sym h.made) (into h.of a.0), a.1)

pub either_gives : {A : Type 0} (R S : Shape A) (P : A → Type 0) → Gives R P → Gives S P → Gives (Either R S) P
either_gives R S P f g ts rest x s (one h) = f ts rest x s h
either_gives R S P f g ts rest x s (other h) = g ts rest x s h

pub absent_gives : {A : Type 0} (y : A) (P : A → Type 0) → P y → Gives (Absent y) P
absent_gives y P p ts _ _ s absent = (p, s)

pub many_gives : {A : Type 0} (R : Shape A) (P : A → Type 0) → Gives R P → Gives (Many R) (AllByRecursion P)
many_gives R P f ts _ _ s none = (tt, s)
many_gives R P f ts rest _ s (more {mid = mid} {x = x} {xs = xs} h hs) =
    let a = f ts mid x s h in
    let b = many_gives R P f mid rest xs a.1 hs in
    ((a.0, b.0), b.1)

-- the list has a first member
abbrev pub AllOfSome : {A : Type 0} → (A → Type 0) → List A → Type 0
AllOfSome P [] = ⊥
AllOfSome P (x ∷ xs) = P x × AllByRecursion P xs

pub separated_gives : {A : Type 0} (want : Want) (R : Shape A) (P : A → Type 0) → Gives R P → Gives (Separated want R) (AllOfSome P)
separated_gives {A} want R P f =
    made_gives list_of _ (λ (x : A × List A). P x.0 × AllByRecursion P x.1) (AllOfSome P) (λ x h. h)
    (then_gives R _ P (AllByRecursion P) f (many_gives _ P (made_gives second_of _ (λ (x : Token × A). P x.1) P (λ x h. h) (behind_gives want R P f))))

some_all : {A : Type 0} (P : A → Type 0) (xs : List A) → AllOfSome P xs → AllByRecursion P xs
some_all P [] h = tt
some_all P (x ∷ xs) h = h

pub gives_all : {A : Type 0} (R : Shape (List A)) (P : A → Type 0) → Gives R (AllOfSome P) → Gives R (AllByRecursion P)
gives_all R P g ts rest xs s h = let a = g ts rest xs s h in (some_all P xs a.0, a.1)

-- ---- parts of which nothing is kept

pub leaves_spelled : {A : Type 0} (g : Grammar A) → Gives (shape_of g) Anything
leaves_spelled (grammar.One want) = any_token want
leaves_spelled grammar.Number = λ ts rest x s h. any_token _ ts rest h.token s h.is
leaves_spelled grammar.NumberAt = λ ts rest x s h. any_token _ ts rest h.token s h.is
leaves_spelled grammar.String = λ ts rest x s h. any_token _ ts rest h.token s h.is
leaves_spelled (grammar.Then g h) = λ ts rest x s d. leaves_spelled h d.mid rest x.1 (leaves_spelled g ts d.mid x.0 s d.first).1 d.second
leaves_spelled (grammar.Made f g) = λ ts rest x s d. leaves_spelled g ts rest d.of s d.shape
leaves_spelled (grammar.At want g h) = either_gives _ _ Anything (leaves_spelled g) (leaves_spelled h)
leaves_spelled (grammar.If p g h) = either_gives _ _ Anything (leaves_spelled g) (leaves_spelled h)
leaves_spelled (grammar.Absent x) = absent_gives x Anything tt
leaves_spelled (grammar.Repeated want g) = λ ts rest x s d. (tt, (many_gives (shape_of g) Anything (leaves_spelled g) ts rest x s d).1)
leaves_spelled (grammar.Separated sign g) = λ ts rest x s d. (tt, (separated_gives sign (shape_of g) Anything (leaves_spelled g) ts rest x s d).1)
leaves_spelled grammar.Never = λ ts rest x s h. absurd h
