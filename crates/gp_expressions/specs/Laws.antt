-- What holds of the tokens of expressions and of conditions.
use Rattle.std.specs.Prelude.{ℕ, List, []}
use Rattle.gp_tokens.specs.declared.token.Token.{Token}
use Rattle.gp_tokens.specs.Grammar.{shape_of}
use Rattle.gp_tokens.specs.Fits.{Fits}
use Rattle.gp_expressions.specs.declared.ranged.Ranged.{Ranged}
use Rattle.gp_expressions.specs.Expressions.{Tree, list}
use Rattle.gp_expressions.specs.Conditions.{CondTree, condition}

-- at each room they are read without a doubt
abbrev pub ListsFit : Type 0
ListsFit = (room : ℕ) → Fits (list room)

abbrev pub ConditionsFit : Type 0
ConditionsFit = (room n : ℕ) → Fits (condition room n)

-- no tokens are both a list and a condition
abbrev pub NoTokensAreBoth : Type 0
NoTokensAreBoth = (room m n : ℕ) (tokens : List Token) (x : Ranged Tree) (y : Ranged CondTree) → shape_of (list room) tokens [] x → shape_of (condition m n) tokens [] y → ⊥
