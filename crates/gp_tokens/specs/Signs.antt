-- The table of signs.
use Rattle.std.specs.Prelude.{ℕ, List, [], ◌∷◌, codes}
use Rattle.gp_tokens.specs.declared.token.Kind.{Kind}
use Rattle.gp_tokens.specs.declared.token.Kind.TheVariants as k

-- the signs of one byte that begin no longer sign
abbrev pub other_signs : List (Kind × List ℕ)
other_signs =
    (k.OpenParenthesis, codes "(") ∷ (k.CloseParenthesis, codes ")")
    ∷ (k.OpenBracket, codes "[") ∷ (k.CloseBracket, codes "]")
    ∷ (k.OpenBrace, codes "{") ∷ (k.CloseBrace, codes "}")
    ∷ (k.Comma, codes ",") ∷ (k.Semicolon, codes ";") ∷ (k.Colon, codes ":") ∷ (k.Dot, codes ".")
    ∷ (k.Plus, codes "+") ∷ (k.Minus, codes "-") ∷ (k.Star, codes "*") ∷ (k.Slash, codes "/")
    ∷ (k.Hash, codes "#") ∷ (k.Bar, codes "|") ∷ []

-- the signs, the longer ones first
abbrev pub signs : List (Kind × List ℕ)
signs =
    (k.LessEqual, codes "<=") ∷ (k.GreaterEqual, codes ">=") ∷ (k.NotEqual, codes "!=") ∷ (k.Arrow, codes "=>")
    ∷ (k.Less, codes "<") ∷ (k.Greater, codes ">") ∷ (k.Exclamation, codes "!") ∷ (k.Equal, codes "=")
    ∷ other_signs
