-- A test that goes over tokens gives the same before a tree of a grammar and behind it, where the grammar lacks what the
-- test looks for.
use Rattle.std.proofs.Common.{◌≡◌, Bool, true, false, List, refl, ◌∙◌}
use Rattle.std.specs.Prelude.{if◌then◌else◌}
use Rattle.gp_tokens.specs.declared.token.Kind.TheVariants as k
use Rattle.gp_tokens.specs.declared.token.Token.{Token}
use Rattle.gp_tokens.specs.declared.want.Want.{Want}
use Rattle.gp_tokens.specs.declared.want.Want.TheVariants as wants
use Rattle.gp_tokens.specs.Wants.{excludes}
use Rattle.gp_tokens.specs.Shape.{Shape, Is, ◌then◌, one, other, absent, none, more, second_of, list_of}
use Rattle.gp_tokens.specs.Shape as s
use Rattle.gp_tokens.specs.Grammar.{Grammar, One, Number, NumberAt, String, Then, Made, At, If, Absent, Repeated, Separated, Never, shape_of}
use Rattle.gp_tokens.specs.Fits.{Lacks}
use Rattle.gp_tokens.specs.Ahead.{stands_before}
use Rattle.gp_tokens.proofs.Wants.{excluded}

abbrev pub Passes : {A : Type 0} → (List Token → Bool) → Shape A → Type 0
Passes {A} test R = (ts rest : List Token) (x : A) → R ts rest x → test ts ≡ test rest

-- a token that is none of both is passed
token_passes : (want stop a : Want) → excludes a stop ≡ true → excludes a want ≡ true → Passes (stands_before want stop) (Is a)
token_passes want stop a e f ts rest x p = rw (p.front, excluded a stop x e p.is, excluded a want x f p.is) refl

then_passes : {A B : Type 0} (test : List Token → Bool) (R : Shape A) (S : Shape B) → Passes test R → Passes test S → Passes test (R then S)
then_passes test R S p q ts rest x h = p ts h.mid x.0 h.first ∙ q h.mid rest x.1 h.second

made_passes : {A B : Type 0} (test : List Token → Bool) (f : A → B) (R : Shape A) → Passes test R → Passes test (s.Made f R)
made_passes test f R p ts rest y h = p ts rest h.of h.shape

either_passes : {A : Type 0} (test : List Token → Bool) (R S : Shape A) → Passes test R → Passes test S → Passes test (s.Either R S)
either_passes test R S p q ts rest x (one h) = p ts rest x h
either_passes test R S p q ts rest x (other h) = q ts rest x h

absent_passes : {A : Type 0} (test : List Token → Bool) (y : A) → Passes test (s.Absent y)
absent_passes test y ts _ _ absent = refl

pub many_passes : {A : Type 0} (test : List Token → Bool) (R : Shape A) → Passes test R → Passes test (s.Many R)
many_passes test R p ts _ _ none = refl
many_passes test R p ts rest _ (more {mid = mid} {x = x} {xs = xs} h hs) = p ts mid x h ∙ many_passes test R p mid rest xs hs

-- such a test of the tokens is the same before a tree and behind it
pub passes : {A : Type 0} (want stop : Want) (x : Grammar A) → Lacks stop x → Lacks want x → Passes (stands_before want stop) (shape_of x)
passes want stop (One w) e f = token_passes want stop w e f
passes want stop Number e f = λ ts rest x p. token_passes want stop (wants.Kind k.Number) e f ts rest p.token p.is
passes want stop NumberAt e f = λ ts rest x p. token_passes want stop (wants.Kind k.Number) e f ts rest p.token p.is
passes want stop String e f = λ ts rest x p. token_passes want stop (wants.Kind k.String) e f ts rest p.token p.is
passes want stop (Then x y) e f = then_passes _ _ _ (passes want stop x e.0 f.0) (passes want stop y e.1 f.1)
passes want stop (Made h x) e f = made_passes _ h _ (passes want stop x e f)
passes want stop (At w x y) e f = either_passes _ _ _ (passes want stop x e.0 f.0) (passes want stop y e.1 f.1)
passes want stop (If p x y) e f = either_passes _ _ _ (passes want stop x e.0 f.0) (passes want stop y e.1 f.1)
passes want stop (Absent z) e f = absent_passes _ z
passes want stop (Repeated w x) e f = many_passes _ _ (passes want stop x e f)
passes want stop (Separated sign x) e f =
    let part = passes want stop x e.1 f.1 in
    made_passes _ list_of _ (then_passes _ _ _ part (many_passes _ _ (made_passes _ second_of _ (then_passes _ (Is sign) _ (token_passes want stop sign e.0 f.0) part))))
passes want stop Never e f = λ ts rest x h. absurd h

-- the wanted token is met, and the one that stops ends the search
pub want_met : (want stop : Want) → excludes want stop ≡ true → (ts rest : List Token) (x : Token) → Is want ts rest x → stands_before want stop ts ≡ true
want_met want stop e ts rest x p = rw (p.front, excluded want stop x e p.is, p.is) refl

pub stop_met : (want stop : Want) (ts rest : List Token) (x : Token) → Is stop ts rest x → stands_before want stop ts ≡ false
stop_met want stop ts rest x p = rw (p.front, p.is) refl
