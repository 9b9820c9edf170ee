-- A grammar is one value. It is believed as a relation: which tokens, up to which rest, are which tree.
use Rattle.std.specs.Prelude.{ℕ, Bool, List}
use Rattle.gp_tokens.specs.declared.token.Token.{Token}
use Rattle.gp_tokens.specs.declared.want.Want.{Want}
use Rattle.gp_tokens.specs.Shape.{Shape}
use Rattle.gp_tokens.specs.Shape as shape
use Rattle.gp_tokens.specs.Shape.{◌then◌}

-- One token, a number by its value, the same with its offset, a string by its characters; one part and then another; a
-- tree made of another; one of two parts, told by the first token or by a test of the tokens; nothing; a part any number of
-- times, each begun by such a token, and with a sign between. Never is no tokens at all, where the room for recursion ends.
pub data Grammar : Type 0 → Type (0 + 1) where
  One : Want → Grammar Token
  Number : Grammar ℕ
  NumberAt : Grammar (ℕ × ℕ)
  String : Grammar (List ℕ)
  Then : {A B : Type 0} → Grammar A → Grammar B → Grammar (A × B)
  Made : {A B : Type 0} → (A → B) → Grammar A → Grammar B
  At : {A : Type 0} → Want → Grammar A → Grammar A → Grammar A
  If : {A : Type 0} → (List Token → Bool) → Grammar A → Grammar A → Grammar A
  Absent : {A : Type 0} → A → Grammar A
  Repeated : {A : Type 0} → Want → Grammar A → Grammar (List A)
  Separated : {A : Type 0} → Want → Grammar A → Grammar (List A)
  Never : {A : Type 0} → Grammar A

infixr 20 ◌followed_by◌
abbrev pub ◌followed_by◌ : {A B : Type 0} → Grammar A → Grammar B → Grammar (A × B)
g followed_by h = Then g h

-- the relation, which tries nothing in an order
abbrev pub shape_of : {A : Type 0} → Grammar A → Shape A
shape_of (One want) = shape.Is want
shape_of Number = shape.IsNumber
shape_of NumberAt = shape.IsNumberAt
shape_of String = shape.IsString
shape_of (Then g h) = shape_of g then shape_of h
shape_of (Made f g) = shape.Made f (shape_of g)
shape_of (At want g h) = shape.Either (shape_of g) (shape_of h)
shape_of (If p g h) = shape.Either (shape_of g) (shape_of h)
shape_of (Absent x) = shape.Absent x
shape_of (Repeated want g) = shape.Many (shape_of g)
shape_of (Separated sign g) = shape.Separated sign (shape_of g)
shape_of Never = λ ts rest x. ⊥
