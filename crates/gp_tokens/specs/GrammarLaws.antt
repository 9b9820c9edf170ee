-- What it is that a reader reads a shape.
use Rattle.std.specs.Prelude.{◌≡◌, ℕ, ◌<◌, ◌≤◌, true, false, List, [], ◌∷◌, ◌++◌, length, Contains, Some, Ok}
use Rattle.gp_tokens.specs.declared.token.Kind.TheVariants as k
use Rattle.gp_tokens.specs.declared.token.Token.{Token}
use Rattle.gp_tokens.specs.Lexed.{tokens_of}
use Rattle.gp_tokens.specs.Numbers.{checked_number}
use Rattle.gp_values.specs.Texts.{IsText}
use Rattle.gp_tokens.specs.declared.want.Want.{Want}
use Rattle.gp_tokens.specs.Shape.{Shape}
use Rattle.gp_tokens.specs.Reading.{Reader, begins}

-- what is read has the shape
abbrev pub Sound : {A : Type 0} → Reader A → Shape A → Type 0
Sound {A} reader R = (ts : List Token) (x : A × List Token) → reader ts ≡ Some x → R ts x.1 x.0

-- what has the shape is read, before a rest that may follow it
abbrev pub Again : {A : Type 0} → Reader A → Shape A → (List Token → Type 0) → Type 0
Again {A} reader R Follows = (ts rest : List Token) (x : A) → R ts rest x → Follows rest → reader ts ≡ Some (x, rest)

abbrev pub Anything : List Token → Type 0
Anything ts = Unit {0}

-- such a token comes next
pub record Comes (want : Want) (ts : List Token) : Type 0 where
  pub comes : begins want ts ≡ true

-- no such token comes next
pub record No (want : Want) (ts : List Token) : Type 0 where
  pub none : begins want ts ≡ false

-- what has the shape begins with such a token
abbrev pub Begins : {A : Type 0} → Want → Shape A → Type 0
Begins {A} want R = (ts rest : List Token) (x : A) → R ts rest x → Comes want ts

-- what has the shape, before what may follow it, does not begin with such a token
abbrev pub NeverBegins : {A : Type 0} → Want → Shape A → (List Token → Type 0) → Type 0
NeverBegins {A} want R Follows = (ts rest : List Token) (x : A) → R ts rest x → Follows rest → No want ts

-- what has the shape, before what may follow it, may follow
abbrev pub MayFollow : {A : Type 0} → Shape A → (List Token → Type 0) → (List Token → Type 0) → Type 0
MayFollow {A} R Follows First = (ts rest : List Token) (x : A) → R ts rest x → Follows rest → First ts

-- what has the shape takes a token at least
abbrev pub Shrinks : {A : Type 0} → Shape A → Type 0
Shrinks {A} R = (ts rest : List Token) (x : A) → R ts rest x → length rest < length ts

-- what has the shape makes no tokens
abbrev pub Keeps : {A : Type 0} → Shape A → Type 0
Keeps {A} R = (ts rest : List Token) (x : A) → R ts rest x → length rest ≤ length ts

-- ---- what shapes ask of tokens beside their kinds, the tokens of a text have

-- each Number of a text has a value of no more than 2 ^ 127
abbrev pub NumbersHaveValues : Type 0
NumbersHaveValues = (text : List ℕ) (tokens : List Token) (t : Token) → tokens_of text ≡ Ok tokens → Contains tokens t → t.kind ≡ k.Number → (value : ℕ) × (checked_number t.text ≡ Some value)

-- each String of a text has characters between two quotation marks
abbrev pub StringsHaveCharacters : Type 0
StringsHaveCharacters =
    (text : List ℕ) (tokens : List Token) (t : Token) → tokens_of text ≡ Ok tokens → Contains tokens t → t.kind ≡ k.String
    → (characters : List ℕ) × (t.text ≡ 34 ∷ characters ++ 34 ∷ []) × IsText characters
