-- A text that is cut when a token is asked for.
use Rattle.std.specs.Prelude.{◌≡◌, ℕ, ◌+◌, ◌<◌, ◌^◌, List, [], ◌∷◌, length, Option, Some, None, Result, Ok, Err}
use Rattle.gp_tokens.specs.declared.fault.LexFault.{LexFault}
use Rattle.gp_tokens.specs.declared.token.Token.{Token}
use Rattle.gp_tokens.specs.Lexed.{Outcome, Fails, lexed, tokens_of}

-- the tokens, where there is no fault
abbrev pub tokens_in : Outcome → List Token
tokens_in (Ok tokens) = tokens
tokens_in (Err fault) = []

-- no fault is met from this offset on
abbrev pub HasTokens : ℕ → List ℕ → Type 0
HasTokens at text = lexed 0 at text ≡ Ok (tokens_in (lexed 0 at text))

-- the next token, and those of what stands behind it
abbrev pub upcoming : Option Token → ℕ → List ℕ → List Token
upcoming None at rest = []
upcoming (Some t) at rest = t ∷ tokens_in (lexed 0 at rest)

-- What stands behind the next token has no fault, its offsets are short, and so many tokens are left.
pub record IsCutting (next : Option Token) (at : ℕ) (rest : List ℕ) (count : ℕ) : Type 0 where
  pub fits : at + length rest < 2 ^ 32
  pub faultless : HasTokens at rest
  pub counted : count ≡ length (upcoming next at rest)

-- a short text without a fault has so many tokens
pub record HasCount (text : List ℕ) (count : ℕ) : Type 0 where
  pub fits : length text < 2 ^ 32
  pub faultless : HasTokens 0 text
  pub counted : count ≡ length (tokens_in (tokens_of text))

-- the answer is how many tokens the text has, or its first fault
abbrev pub IsCount : List ℕ → Result ℕ LexFault → Type 0
IsCount text (Ok count) = HasCount text count
IsCount text (Err e) = Fails e (tokens_of text)
