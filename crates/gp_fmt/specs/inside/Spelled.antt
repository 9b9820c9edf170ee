-- What the tokens of a text are spelled like, and what a token of a canonical text has to be so that it is cut as one.
use Rattle.std.specs.Prelude.{◌≡◌, ℕ, ◌<◌, ◌≤◌, ◌^◌, true, false, List, [], ◌∷◌, ◌++◌, length, Contains}
use Rattle.std.specs.List.{list_all}
use Rattle.gp_tokens.specs.declared.token.Kind.{Kind}
use Rattle.gp_tokens.specs.declared.token.Kind.TheVariants as k
use Rattle.gp_tokens.specs.declared.token.Token.{Token}
use Rattle.gp_tokens.specs.Bytes.{is_digit, is_word_byte, is_string_byte}
use Rattle.gp_tokens.specs.Numbers.{number_of}
use Rattle.gp_tokens.specs.Signs.{signs}
use Rattle.gp_fmt.specs.declared.piece.Piece.{Piece}
use Rattle.gp_fmt.specs.declared.piece.Piece.TheVariants as p
use Rattle.gp_fmt.specs.Pieces.{sign_text}

-- a word, or a number of no more than 2 ^ 127
pub record IsWordText (text : List ℕ) : Type 0 where
  pub some : 0 < length text
  pub word : list_all is_word_byte text ≡ true
  pub value : list_all is_digit text ≡ true → number_of text ≤ 2 ^ 127

abbrev pub IsWellSpelled : Piece → Type 0
IsWellSpelled (p.Sign kind) = Contains signs (kind, sign_text kind)
IsWellSpelled p.Negation = Unit {0}
IsWellSpelled (p.Word word) = Unit {0}
IsWellSpelled (p.Name name) = IsWordText name
IsWellSpelled (p.Number value) = value ≤ 2 ^ 127
IsWellSpelled (p.String characters) = list_all is_string_byte characters ≡ true

-- what a token of a text is spelled like; of a sign nothing is asked
pub record IsSpelledNumber (text : List ℕ) : Type 0 where
  pub word : IsWordText text
  pub digits : list_all is_digit text ≡ true

pub record IsSpelledWord (text : List ℕ) : Type 0 where
  pub word : IsWordText text
  pub no_number : list_all is_digit text ≡ false

pub record IsSpelledString (text : List ℕ) : Type 0 where
  pub characters : List ℕ
  pub quoted : text ≡ 34 ∷ characters ++ 34 ∷ []
  pub are_characters : list_all is_string_byte characters ≡ true

abbrev pub IsSpelledAs : Kind → List ℕ → Type 0
IsSpelledAs k.Number text = IsSpelledNumber text
IsSpelledAs k.Word text = IsSpelledWord text
IsSpelledAs k.String text = IsSpelledString text
IsSpelledAs other text = Unit {0}

abbrev pub IsSpelledToken : Token → Type 0
IsSpelledToken t = IsSpelledAs t.kind t.text
