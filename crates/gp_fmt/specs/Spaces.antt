-- The space between two neighbouring tokens of a canonical text.
use Rattle.std.specs.Prelude.{ℕ, Bool, true, false, ◌&&◌, ◌||◌, if◌then◌else◌, List, [], ◌∷◌, ◌++◌, codes}
use Rattle.gp_tokens.specs.declared.keyword.Keyword.{Keyword}
use Rattle.gp_tokens.specs.declared.keyword.Keyword.TheVariants as words
use Rattle.gp_tokens.specs.declared.token.Kind.TheVariants as k
use Rattle.gp_fmt.specs.declared.piece.Piece.{Piece}
use Rattle.gp_fmt.specs.declared.piece.Piece.TheVariants as p
use Rattle.gp_fmt.specs.Pieces.{text_of}

-- no space stands behind it: `(`, `{`, `:`, `.` and a unary minus
abbrev pub joins_next : Piece → Bool
joins_next (p.Sign k.OpenParenthesis) = true
joins_next (p.Sign k.OpenBrace) = true
joins_next (p.Sign k.Colon) = true
joins_next (p.Sign k.Dot) = true
joins_next p.Negation = true
joins_next _ = false

-- no space stands before it: `)`, `}`, `,`, `;`, `!`, `:` and `.`
abbrev pub joins_last : Piece → Bool
joins_last (p.Sign k.CloseParenthesis) = true
joins_last (p.Sign k.CloseBrace) = true
joins_last (p.Sign k.Comma) = true
joins_last (p.Sign k.Semicolon) = true
joins_last (p.Sign k.Exclamation) = true
joins_last (p.Sign k.Colon) = true
joins_last (p.Sign k.Dot) = true
joins_last _ = false

abbrev pub opens : Piece → Bool
opens (p.Sign k.OpenParenthesis) = true
opens _ = false

abbrev pub word_takes_parenthesis : Keyword → Bool
word_takes_parenthesis words.Edge = true
word_takes_parenthesis words.Int = true
word_takes_parenthesis words.Char = true
word_takes_parenthesis words.String = true
word_takes_parenthesis words.Atom = true
word_takes_parenthesis words.Indegree = true
word_takes_parenthesis words.Outdegree = true
word_takes_parenthesis words.Length = true
word_takes_parenthesis _ = false

-- no space stands between it and `(`: the name of a rule, a node or an edge, and those words
abbrev pub takes_parenthesis : Piece → Bool
takes_parenthesis (p.Name name) = true
takes_parenthesis (p.Word word) = word_takes_parenthesis word
takes_parenthesis _ = false

-- no space stands between these two
abbrev pub joined : Piece → Piece → Bool
joined one next = joins_next one || joins_last next || (takes_parenthesis one && opens next)

-- one space stands between any others
abbrev pub gap : Piece → Piece → List ℕ
gap one next = if joined one next then [] else codes " "

-- what stands behind a token: the others, each with its space before it
abbrev pub spaced_behind : Piece → List Piece → List ℕ
spaced_behind one [] = []
spaced_behind one (next ∷ others) = gap one next ++ text_of next ++ spaced_behind next others

-- tokens on one line
abbrev pub spaced : List Piece → List ℕ
spaced [] = []
spaced (first ∷ others) = text_of first ++ spaced_behind first others
