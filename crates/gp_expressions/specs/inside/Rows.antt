-- What is made of rows of parts.
use Rattle.std.specs.Prelude.{◌≡◌, List, map, MatchResult, Result}
use Rattle.gp_tokens.specs.declared.error.ReadError.{ReadError}
use Rattle.gp_tokens.specs.declared.error.ReadError.TheVariants as error
use Rattle.gp_syntax.specs.declared.expression.Signed.{Signed}
use Rattle.gp_expressions.specs.declared.ranged.Ranged.{Ranged}
use Rattle.gp_expressions.specs.Expressions.{Tree, headed, signed_by}

-- A function makes this of a list of parts, as far as memory goes.
pub record IsMaking {A P T U : Type 0} (items : P → List T) (post : A → P → Result U ReadError → Type 0) (make : List T → U) : Type 0 where
  pub makes : (alloc : A) (parts : P) (r : Result U ReadError) → post alloc parts r → MatchResult r (λ x. x ≡ make (items parts)) (λ e. e ≡ error.NoMemory)

-- operands with their signs: of the first, and of the others
abbrev pub signed_row : {S : Type 0} → S → S → List (Ranged Tree) → Ranged (List (Signed S Tree))
signed_row head sign rs = headed head (map (signed_by sign) rs)
