-- What a grammar is made of. A shape says which tokens, up to which rest, are which tree.
use Rattle.std.specs.Prelude.{◌≡◌, ℕ, true, List, [], ◌∷◌, ◌++◌, Some}
use Rattle.gp_tokens.specs.declared.token.Kind.TheVariants as k
use Rattle.gp_tokens.specs.declared.token.Token.{Token}
use Rattle.gp_tokens.specs.Numbers.{checked_number}
use Rattle.gp_values.specs.Texts.{IsText}
use Rattle.gp_tokens.specs.declared.want.Want.{Want}
use Rattle.gp_tokens.specs.declared.want.Want.TheVariants as want
use Rattle.gp_tokens.specs.Wants.{meets}

abbrev pub Shape : Type 0 → Type (0 + 1)
Shape A = List Token → List Token → A → Type 0

-- one token that is what is wanted
pub record Is (want : Want) (ts rest : List Token) (x : Token) : Type 0 where
  pub front : ts ≡ x ∷ rest
  pub is : meets want x ≡ true

-- one number of no more than 2 ^ 127, by its value
pub record IsNumber (ts rest : List Token) (value : ℕ) : Type 0 where
  pub token : Token
  pub is : Is (want.Kind k.Number) ts rest token
  pub value_is : checked_number token.text ≡ Some value

-- the same, by its value and its offset
pub record IsNumberAt (ts rest : List Token) (x : ℕ × ℕ) : Type 0 where
  pub token : Token
  pub is : Is (want.Kind k.Number) ts rest token
  pub value_is : checked_number token.text ≡ Some x.0
  pub start_is : token.start ≡ x.1

-- one string, by the characters between its quotation marks
pub record IsString (ts rest : List Token) (characters : List ℕ) : Type 0 where
  pub token : Token
  pub is : Is (want.Kind k.String) ts rest token
  pub spelled : token.text ≡ 34 ∷ characters ++ 34 ∷ []
  pub text : IsText characters

-- one shape, and then another
infixr 20 ◌then◌
pub record ◌then◌ {A B : Type 0} (R : Shape A) (S : Shape B) (ts rest : List Token) (x : A × B) : Type 0 where
  pub mid : List Token
  pub first : R ts mid x.0
  pub second : S mid rest x.1

-- a tree made of another
pub record Made {A B : Type 0} (f : A → B) (R : Shape A) (ts rest : List Token) (y : B) : Type 0 where
  pub of : A
  pub shape : R ts rest of
  pub made : y ≡ f of

-- one of two shapes
pub data Either {A : Type 0} (R S : Shape A) : List Token → List Token → A → Type 0 where
  one : {ts rest : List Token} {x : A} → R ts rest x → Either R S ts rest x
  other : {ts rest : List Token} {x : A} → S ts rest x → Either R S ts rest x

-- nothing, and then the tree is this one
pub data Absent {A : Type 0} (x : A) : List Token → List Token → A → Type 0 where
  absent : {ts : List Token} → Absent x ts ts x

-- a shape any number of times
pub data Many {A : Type 0} (R : Shape A) : List Token → List Token → List A → Type 0 where
  none : {ts : List Token} → Many R ts ts []
  more : {ts mid rest : List Token} {x : A} {xs : List A} → R ts mid x → Many R mid rest xs → Many R ts rest (x ∷ xs)

-- a tree that nothing is kept of
abbrev pub dropped : {A : Type 0} → A → Unit {0}
dropped _ = tt

abbrev pub first_of : {A B : Type 0} → A × B → A
first_of (x, _) = x

abbrev pub second_of : {A B : Type 0} → A × B → B
second_of (_, y) = y

abbrev pub list_of : {A : Type 0} → A × List A → List A
list_of (x, xs) = x ∷ xs

-- R {sign R}, as the list of its trees
abbrev pub Separated : {A : Type 0} → Want → Shape A → Shape (List A)
Separated sign R = Made list_of (R then Many (Made second_of (Is sign then R)))
