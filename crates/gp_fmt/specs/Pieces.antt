-- The tokens of a canonical text: what each is, and how it is spelled.
use Rattle.std.specs.Prelude.{ℕ, List, [], ◌∷◌, ◌++◌, if◌then◌else◌, codes}
use Rattle.std.specs.List.{list_all}
use Rattle.std.specs.Fmt.{decimal}
use Rattle.gp_tokens.specs.declared.token.Kind.{Kind}
use Rattle.gp_tokens.specs.declared.token.Kind.TheVariants as k
use Rattle.gp_tokens.specs.declared.token.Token.{Token}
use Rattle.gp_tokens.specs.Bytes.{is_digit}
use Rattle.gp_tokens.specs.Words.{keyword_text}
use Rattle.gp_fmt.specs.declared.piece.Piece.{Piece}
use Rattle.gp_fmt.specs.declared.piece.Piece.TheVariants as p

-- a number, a word and a string have no spelling of their own
abbrev pub sign_text : Kind → List ℕ
sign_text k.OpenParenthesis = codes "("
sign_text k.CloseParenthesis = codes ")"
sign_text k.OpenBracket = codes "["
sign_text k.CloseBracket = codes "]"
sign_text k.OpenBrace = codes "{"
sign_text k.CloseBrace = codes "}"
sign_text k.Less = codes "<"
sign_text k.Greater = codes ">"
sign_text k.LessEqual = codes "<="
sign_text k.GreaterEqual = codes ">="
sign_text k.Equal = codes "="
sign_text k.NotEqual = codes "!="
sign_text k.Arrow = codes "=>"
sign_text k.Comma = codes ","
sign_text k.Semicolon = codes ";"
sign_text k.Colon = codes ":"
sign_text k.Dot = codes "."
sign_text k.Plus = codes "+"
sign_text k.Minus = codes "-"
sign_text k.Star = codes "*"
sign_text k.Slash = codes "/"
sign_text k.Hash = codes "#"
sign_text k.Bar = codes "|"
sign_text k.Exclamation = codes "!"
sign_text k.Number = []
sign_text k.Word = []
sign_text k.String = []

abbrev pub text_of : Piece → List ℕ
text_of (p.Sign kind) = sign_text kind
text_of p.Negation = codes "-"
text_of (p.Word word) = keyword_text word
text_of (p.Name name) = name
text_of (p.Number value) = decimal value
text_of (p.String characters) = codes "\"" ++ characters ++ codes "\""

-- a name of digits alone is a number
abbrev pub kind_of : Piece → Kind
kind_of (p.Sign kind) = kind
kind_of p.Negation = k.Minus
kind_of (p.Word word) = k.Word
kind_of (p.Name name) = if list_all is_digit name then k.Number else k.Word
kind_of (p.Number value) = k.Number
kind_of (p.String characters) = k.String

-- The tokens are these, wherever they begin.
pub data AreTokens : List Piece → List Token → Type 0 where
  none : AreTokens [] []
  next : {ps : List Piece} {ts : List Token} (p : Piece) (start : ℕ) → AreTokens ps ts → AreTokens (p ∷ ps) (record { kind = kind_of p; start = start; text = text_of p } ∷ ts)
