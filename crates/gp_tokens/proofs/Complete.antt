-- Each tree of a grammar that fits is read.
use Rattle.std.proofs.Common.{◌≡◌, ℕ, Bool, true, false, List, [], ◌∷◌, ◌++◌, length, refl, sym, ◌∙◌, subst, inl, inr, arith}
use Rattle.std.specs.Prelude.{if◌then◌else◌}
use Rattle.gp_memory.proofs.Basics.{which}
use Rattle.gp_tokens.specs.declared.token.Kind.TheVariants as k
use Rattle.gp_tokens.specs.declared.token.Token.{Token}
use Rattle.gp_tokens.specs.declared.want.Want.{Want}
use Rattle.gp_tokens.specs.declared.want.Want.TheVariants as wants
use Rattle.gp_tokens.specs.Wants.{excludes}
use Rattle.gp_tokens.specs.Shape as s
use Rattle.gp_tokens.specs.Shape.{Shape, ◌then◌, one, other}
use Rattle.gp_tokens.specs.Reading.{Reader}
use Rattle.gp_tokens.specs.GrammarLaws.{Again, Anything, No, Begins, NeverBegins, Shrinks, Keeps}
use Rattle.gp_tokens.proofs.Shapes as g
use Rattle.gp_tokens.proofs.Strings.{number_at_again, number_at_begins, number_at_shrinks, string_again, string_begins, string_shrinks}
use Rattle.gp_tokens.specs.Grammar.{Grammar, One, Number, NumberAt, String, Then, Made, At, If, Absent, Repeated, Separated, Never, shape_of}
use Rattle.gp_tokens.specs.Reading.{reader_of}
use Rattle.gp_tokens.specs.Fits.{nullable, enders, NoneOf, OnTrue, BeginsBy, Avoids, AllAvoid, AllExcluded, Fits}

on_true : (b : Bool) (T : Type 0) → b ≡ true → OnTrue b T → T
on_true true T e x = x
on_true false T e x = absurd cc

second_false : (a b : Bool) → a ≡ true → (if a then b else false) ≡ false → b ≡ false
second_false true b e h = h
second_false false b e h = absurd cc

first_not : (a b : Bool) → (if a then true else b) ≡ false → a ≡ false
first_not true b h = absurd cc
first_not false b h = refl

second_not : (a b : Bool) → (if a then true else b) ≡ false → b ≡ false
second_not true b h = absurd cc
second_not false b h = h

-- ---- the tokens get fewer

pub keeps : {A : Type 0} (x : Grammar A) → Keeps (shape_of x)
keeps (One want) = g.shrinks_keeps _ (g.token_shrinks want)
keeps Number = g.shrinks_keeps _ g.number_shrinks
keeps NumberAt = g.shrinks_keeps _ number_at_shrinks
keeps String = g.shrinks_keeps _ string_shrinks
keeps (Then x y) = g.then_keeps _ _ (keeps x) (keeps y)
keeps (Made f x) = g.made_keeps _ _ (keeps x)
keeps (At want x y) = g.either_keeps _ _ (keeps x) (keeps y)
keeps (If p x y) = g.either_keeps _ _ (keeps x) (keeps y)
keeps (Absent a) = g.absent_keeps a
keeps (Repeated want x) = g.many_keeps _ (keeps x)
keeps (Separated sign x) = g.separated_keeps sign _ (keeps x)
keeps Never = λ ts rest x h. absurd h

second_shrinks : {A B : Type 0} (R : Shape A) (S : Shape B) → Keeps R → Shrinks S → Shrinks (R then S)
second_shrinks R S p q ts rest x h = omega (arith, p ts h.mid x.0 h.first, q h.mid rest x.1 h.second)

pub shrinks : {A : Type 0} (x : Grammar A) → nullable x ≡ false → Shrinks (shape_of x)
shrinks (One want) e = g.token_shrinks want
shrinks Number e = g.number_shrinks
shrinks NumberAt e = number_at_shrinks
shrinks String e = string_shrinks
shrinks (Then x y) e = elim (which (nullable x)) [
  | inl t ↦ second_shrinks _ _ (keeps x) (shrinks y (second_false _ _ t e))
  | inr f ↦ g.then_shrinks _ _ (shrinks x f) (keeps y)
]
shrinks (Made f x) e = g.made_shrinks _ _ (shrinks x e)
shrinks (At want x y) e = g.either_shrinks _ _ (shrinks x (first_not _ _ e)) (shrinks y (second_not (nullable x) _ e))
shrinks (If p x y) e = g.either_shrinks _ _ (shrinks x (first_not _ _ e)) (shrinks y (second_not (nullable x) _ e))
shrinks (Absent a) e = absurd cc
shrinks (Repeated want x) e = absurd cc
shrinks (Separated sign x) e = g.separated_shrinks sign _ (shrinks x e)
shrinks Never e = λ ts rest x h. absurd h

-- ---- what it begins with

pub begins : {A : Type 0} (want : Want) (x : Grammar A) → BeginsBy want x → Begins want (shape_of x)
begins want (One w) b = subst (λ v. Begins v (s.Is w)) b (g.token_begins w)
begins want Number b = subst (λ v. Begins v s.IsNumber) b g.number_begins
begins want NumberAt b = subst (λ v. Begins v s.IsNumberAt) b number_at_begins
begins want String b = subst (λ v. Begins v s.IsString) b string_begins
begins want (Then x y) b = g.then_begins want _ _ (begins want x b)
begins want (Made f x) b = g.made_begins want f _ (begins want x b)
begins want (At w x y) b = g.either_begins want _ _ (begins want x b.0) (begins want y b.1)
begins want (If p x y) b = g.either_begins want _ _ (begins want x b.0) (begins want y b.1)
begins want (Absent a) b = absurd b
begins want (Repeated w x) b = absurd b
begins want (Separated sign x) b = g.separated_begins want sign _ (begins want x b)
begins want Never b = λ ts rest x h. absurd h

mutual
  pub strong : {A : Type 0} (want : Want) (x : Grammar A) → nullable x ≡ false → Avoids want x → NeverBegins want (shape_of x) Anything
  strong want (One w) e a = g.begins_never w want _ _ a (g.token_begins w)
  strong want Number e a = g.begins_never (wants.Kind k.Number) want _ _ a g.number_begins
  strong want NumberAt e a = g.begins_never (wants.Kind k.Number) want _ _ a number_at_begins
  strong want String e a = g.begins_never (wants.Kind k.String) want _ _ a string_begins
  strong want (Then x y) e a = elim (which (nullable x)) [
    | inl t ↦ g.then_never want _ _ Anything (weak want x a.0) (strong want y (second_false _ _ t e) (on_true _ _ t a.1))
    | inr f ↦ λ ts rest z d n. strong want x f a.0 ts d.mid z.0 d.first tt
  ]
  strong want (Made f x) e a = g.made_never want f _ Anything (strong want x e a)
  strong want (At w x y) e a = g.either_never want _ _ Anything (strong want x (first_not _ _ e) a.0) (strong want y (second_not (nullable x) _ e) a.1)
  strong want (If p x y) e a = g.either_never want _ _ Anything (strong want x (first_not _ _ e) a.0) (strong want y (second_not (nullable x) _ e) a.1)
  strong want (Absent z) e a = absurd cc
  strong want (Repeated w x) e a = absurd cc
  strong want (Separated sign x) e a = g.separated_never want sign _ Anything (strong want x e a.1)
  strong want Never e a = λ ts rest x h f. absurd h

  pub weak : {A : Type 0} (want : Want) (x : Grammar A) → Avoids want x → NeverBegins want (shape_of x) (No want)
  weak want (One w) a = g.begins_never w want _ _ a (g.token_begins w)
  weak want Number a = g.begins_never (wants.Kind k.Number) want _ _ a g.number_begins
  weak want NumberAt a = g.begins_never (wants.Kind k.Number) want _ _ a number_at_begins
  weak want String a = g.begins_never (wants.Kind k.String) want _ _ a string_begins
  weak want (Then x y) a = elim (which (nullable x)) [
    | inl t ↦ g.then_never want _ _ (No want) (weak want x a.0) (weak want y (on_true _ _ t a.1))
    | inr f ↦ λ ts rest z d n. strong want x f a.0 ts d.mid z.0 d.first tt
  ]
  weak want (Made f x) a = g.made_never want f _ (No want) (weak want x a)
  weak want (At w x y) a = g.either_never want _ _ (No want) (weak want x a.0) (weak want y a.1)
  weak want (If p x y) a = g.either_never want _ _ (No want) (weak want x a.0) (weak want y a.1)
  weak want (Absent z) a = g.absent_never want z
  weak want (Repeated w x) a = g.many_never want _ (strong want x a.0 a.1)
  weak want (Separated sign x) a = g.separated_never want sign _ (No want) (strong want x a.0 a.1)
  weak want Never a = λ ts rest x h f. absurd h

-- ---- what must not come next

left_of : (ws vs : List Want) (ts : List Token) → NoneOf (ws ++ vs) ts → NoneOf ws ts
left_of [] vs ts n = tt
left_of (w ∷ ws) vs ts n = (n.0, left_of ws vs ts n.1)

right_of : (ws vs : List Want) (ts : List Token) → NoneOf (ws ++ vs) ts → NoneOf vs ts
right_of [] vs ts n = n
right_of (w ∷ ws) vs ts n = right_of ws vs ts n.1

then_second : (b : Bool) (ws vs : List Want) (ts : List Token) → NoneOf (if b then ws ++ vs else ws) ts → NoneOf ws ts
then_second true ws vs ts n = left_of ws vs ts n
then_second false ws vs ts n = n

then_first : (b : Bool) (ws vs : List Want) (ts : List Token) → b ≡ true → NoneOf (if b then ws ++ vs else ws) ts → NoneOf vs ts
then_first true ws vs ts e n = right_of ws vs ts n
then_first false ws vs ts e n = absurd cc

at_both : (b : Bool) (w : Want) (ws : List Want) (ts : List Token) → NoneOf (if b then w ∷ ws else ws) ts → NoneOf ws ts
at_both true w ws ts n = n.1
at_both false w ws ts n = n

at_want : (b : Bool) (w : Want) (ws : List Want) (ts : List Token) → b ≡ true → NoneOf (if b then w ∷ ws else ws) ts → No w ts
at_want true w ws ts e n = n.0
at_want false w ws ts e n = absurd cc

before : {A : Type 0} (ws : List Want) (x : Grammar A) → AllAvoid ws x → (mid rest : List Token) (y : A) → shape_of x mid rest y → (nullable x ≡ true → NoneOf ws rest) → NoneOf ws mid
before [] x a mid rest y d n = tt
before (w ∷ ws) x a mid rest y d n = (
  elim (which (nullable x)) [ inl t ↦ weak w x a.0 mid rest y d (n t).0 | inr f ↦ strong w x f a.0 mid rest y d tt ],
  before ws x a.1 mid rest y d (λ t. (n t).1),
)

behind_sign : {B : Type 0} (sign : Want) (S : Shape B) (ws : List Want) → AllExcluded sign ws → (ts rest : List Token) (x : Token × B) → (s.Is sign then S) ts rest x → NoneOf ws ts
behind_sign sign S [] a ts rest x d = tt
behind_sign sign S (w ∷ ws) a ts rest x d = (g.begins_never sign w (s.Is sign then S) Anything a.0 (g.then_begins sign _ _ (g.token_begins sign)) ts rest x d tt, behind_sign sign S ws a.1 ts rest x d)

if_again : {A : Type 0} (p : List Token → Bool) (r t : Reader A) (R S : Shape A) (E : List Token → Type 0) → Again r R E → Again t S E
    → ((ts rest : List Token) (x : A) → R ts rest x → p ts ≡ true) → ((ts rest : List Token) (x : A) → S ts rest x → p ts ≡ false)
    → Again (λ ts. if p ts then r ts else t ts) (s.Either R S) E
if_again p r t R S E a b here away ts rest x (one h) e = rw (here ts rest x h) (a ts rest x h e)
if_again p r t R S E a b here away ts rest x (other h) e = rw (away ts rest x h) (b ts rest x h e)

pub all_again : {A : Type 0} (x : Grammar A) → Fits x → Again (reader_of x) (shape_of x) (NoneOf (enders x))
all_again (One want) f = g.before_less _ _ _ (g.token_again want)
all_again Number f = g.before_less _ _ _ g.number_again
all_again NumberAt f = g.before_less _ _ _ number_at_again
all_again String f = g.before_less _ _ _ string_again
all_again (Then x y) f = g.and_again _ _ _ _ (NoneOf (enders x)) (NoneOf (enders (Then x y))) (all_again x f.0)
    (g.weaker _ _ (NoneOf (enders y)) _ (λ rest n. then_second (nullable y) (enders y) (enders x) rest n) (all_again y f.1.0))
    (λ mid rest z d n. before (enders x) y f.1.1 mid rest z d (λ t. then_first (nullable y) (enders y) (enders x) rest t n))
all_again (Made h x) f = g.made_again h _ _ _ (all_again x f)
all_again (At want x y) f =
    g.at_again want _ _ _ _ (NoneOf (enders (At want x y)))
    (g.weaker _ _ (NoneOf (enders x)) _ (λ rest n. left_of (enders x) (enders y) rest (at_both (nullable y) want (enders x ++ enders y) rest n)) (all_again x f.0))
    (g.weaker _ _ (NoneOf (enders y)) _ (λ rest n. right_of (enders x) (enders y) rest (at_both (nullable y) want (enders x ++ enders y) rest n)) (all_again y f.1.0))
    (begins want x f.1.1.0)
    (λ ts rest z d n. elim (which (nullable y)) [
      | inl t ↦ weak want y f.1.1.1 ts rest z d (at_want (nullable y) want (enders x ++ enders y) rest t n)
      | inr e ↦ strong want y e f.1.1.1 ts rest z d tt
    ])
all_again (If p x y) f =
    if_again p _ _ _ _ _ (g.weaker _ _ (NoneOf (enders x)) _ (λ rest n. left_of (enders x) (enders y) rest n) (all_again x f.0))
    (g.weaker _ _ (NoneOf (enders y)) _ (λ rest n. right_of (enders x) (enders y) rest n) (all_again y f.1.0)) f.1.1.0 f.1.1.1
all_again (Absent z) f = g.absent_again z _
all_again (Repeated want x) f = g.repeated_again want _ _ (NoneOf (enders x)) (all_again x f.0)
    (λ ts rest z d. before (enders x) x f.1.1.1 ts rest z d (λ t. let no : true ≡ false = sym t ∙ f.1.0 in absurd cc)) (begins want x f.1.1.0) (shrinks x f.1.0)
all_again (Separated sign x) f = g.separated_again sign _ _ (NoneOf (enders x)) (all_again x f.0) (λ ts rest z d. behind_sign sign _ (enders x) f.1 ts rest z d) (keeps x)
all_again Never f = λ ts rest x h n. absurd h
