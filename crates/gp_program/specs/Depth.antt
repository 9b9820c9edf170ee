-- How deep tokens are nested: brackets, and runs of minus signs or of `not`.
use Rattle.std.specs.Prelude.{ℕ, ◌+◌, ◌<◌, ◌≤◌, Bool, if◌then◌else◌, sum, fold, take, length, List, [], ◌∷◌, Option, Some, None, Result, Ok, Err}
use Rattle.gp_memory.specs.declared.refusal.NoMemory.{NoMemory}
use Rattle.gp_memory.specs.Free.{Free}
use Rattle.gp_tokens.specs.declared.keyword.Keyword.TheVariants as word
use Rattle.gp_tokens.specs.declared.token.Kind.{Kind}
use Rattle.gp_tokens.specs.declared.token.Kind.TheVariants as k
use Rattle.gp_tokens.specs.declared.token.Token.{Token}
use Rattle.gp_tokens.specs.Words.{is_word}
use Rattle.gp_program.specs.declared.depth.Role.{Role}
use Rattle.gp_program.specs.declared.depth.Role.TheVariants as role
use Rattle.gp_program.specs.declared.depth.Run.{Run}

-- a token of this kind, where it is told whether it is the word `not`
abbrev pub role_by : Kind → Bool → Role
role_by k.OpenParenthesis n = role.Opening
role_by k.OpenBracket n = role.Opening
role_by k.OpenBrace n = role.Opening
role_by k.CloseParenthesis n = role.Closing
role_by k.CloseBracket n = role.Closing
role_by k.CloseBrace n = role.Closing
role_by k.Minus n = role.Minus
role_by _ n = if n then role.Not else role.Other

unfoldable pub role_of : Token → Role
role_of t = role_by t.kind (is_word word.Not t)

-- one more than the run before it, where that is of the same token
abbrev pub longer : Role → Role → ℕ → ℕ
longer role.Minus role.Minus n = n + 1
longer role.Not role.Not n = n + 1
longer role.Minus _ n = 1
longer role.Not _ n = 1
longer _ _ n = 0

-- the run that ends at this token, after the one that ended before it
abbrev pub next_run : Run → Role → Run
next_run run r = record { role = r; len = longer r run.role run.len }

-- An opening sign adds one, and the run that ends directly before it. A closing one takes away what the last opening sign
-- that is still open added.
abbrev pub next_open : List ℕ → ℕ → Role → List ℕ
next_open still before role.Opening = (1 + before) ∷ still
next_open [] before role.Closing = []
next_open (last ∷ still) before role.Closing = still
next_open still before _ = still

-- what each sign that is still open added, the last one first, and the run that ends at the last token
pub record Nesting : Type 0 where
  pub still : List ℕ
  pub run : Run

abbrev pub behind : Nesting → Token → Nesting
behind n t = record { still = next_open n.still n.run.len (role_of t); run = next_run n.run (role_of t) }

abbrev pub outside : Nesting
outside = record { still = []; run = record { role = role.Other; len = 0 } }

-- the nesting at the last of these tokens
abbrev pub nesting : List Token → Nesting
nesting tokens = fold behind outside tokens

-- the depth at it: the open count, and the length of the run that ends at it
abbrev pub depth : List Token → ℕ
depth tokens = sum (nesting tokens).still + (nesting tokens).run.len

-- the first token at which the depth is above 64
pub record IsTooDeep (tokens : List Token) (k : ℕ) : Type 0 where
  pub place : k < length tokens
  pub deep : 64 < depth (take (k + 1) tokens)
  pub first : (j : ℕ) → j < k → depth (take (j + 1) tokens) ≤ 64

-- the depth at no token is above 64
pub record IsShallow (tokens : List Token) : Type 0 where
  pub shallow : (j : ℕ) → j < length tokens → depth (take (j + 1) tokens) ≤ 64

abbrev pub FindsDepth : List Token → Result (Option ℕ) NoMemory → Type 0
FindsDepth tokens (Ok None) = IsShallow tokens
FindsDepth tokens (Ok (Some k)) = IsTooDeep tokens k
FindsDepth tokens (Err e) = Free
