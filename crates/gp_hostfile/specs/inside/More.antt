-- One more, behind those that were read.
use Rattle.std.specs.Prelude.{◌≡◌, List, [], ◌∷◌, ◌++◌, Option, Some, option_map, Result, Ok, Err}
use Rattle.gp_tokens.specs.declared.token.Token.{Token}
use Rattle.gp_tokens.specs.declared.error.ReadError.{ReadError}
use Rattle.gp_tokens.specs.Reading.{Fails}

abbrev pub more_of : {T : Type 0} → List T → T × List Token → List T × List Token
more_of before x = (before ++ x.0 ∷ [], x.1)

-- What was read stands behind the list, before the tokens that are left.
abbrev pub ReadsMore : {T U : Type 0} → Option (T × List Token) → List T → List T → Result U ReadError → List Token → Type 0
ReadsMore read before after (Ok x) left = option_map (more_of before) read ≡ Some (after, left)
ReadsMore read before after (Err e) left = Fails e read
