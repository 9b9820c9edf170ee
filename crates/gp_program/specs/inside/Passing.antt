-- Parts of which nothing is kept, passed over.
use Rattle.std.specs.Prelude.{◌≡◌, Bool, true, false, List, Option, Some, None}
use Rattle.gp_tokens.specs.declared.token.Token.{Token}

-- Whether the part stood there. Where it did, these tokens are left.
abbrev pub Passes : Option (Unit {0} × List Token) → Bool → List Token → Type 0
Passes read true left = read ≡ Some (tt {0}, left)
Passes read false left = read ≡ None
