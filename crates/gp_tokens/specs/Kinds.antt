-- When two kinds of token are one.
use Rattle.std.specs.Prelude.{Bool}
use denote.Enum.Bare.{sameb}
use Rattle.gp_tokens.specs.contracts.token.Kind.{the_type}
use Rattle.gp_tokens.specs.declared.token.Kind.{Kind}

-- `==` on kinds
unfoldable pub same_kind : Kind → Kind → Bool
same_kind = sameb the_type
