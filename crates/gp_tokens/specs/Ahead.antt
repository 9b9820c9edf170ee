-- What grammars and readings share.
use Rattle.std.specs.Prelude.{Bool, true, false, if◌then◌else◌, List, [], ◌∷◌, Option, Some, None}
use Rattle.gp_tokens.specs.declared.token.Token.{Token}
use Rattle.gp_tokens.specs.declared.want.Want.{Want}
use Rattle.gp_tokens.specs.Wants.{meets}

-- what comes of a value, where there is one
infixl 10 ◌>>=◌
abbrev pub ◌>>=◌ : {A B : Type 0} → Option A → (A → Option B) → Option B
None >>= f = None
(Some x) >>= f = f x

-- such a token stands before the next one that stops the search
abbrev pub stands_before : Want → Want → List Token → Bool
stands_before want stop [] = false
stands_before want stop (t ∷ ts) = if meets stop t then false else (if meets want t then true else stands_before want stop ts)
