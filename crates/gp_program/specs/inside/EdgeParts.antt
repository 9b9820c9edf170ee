-- Edges, read from behind their names on.
use Rattle.std.specs.Prelude.{Bool, Option}
use Rattle.gp_tokens.specs.declared.token.Token.{Token}
use Rattle.gp_tokens.specs.declared.want.Want.TheVariants as wants
use Rattle.gp_tokens.specs.Grammar.{Grammar, One, Made, ◌followed_by◌}
use Rattle.gp_tokens.specs.SignWants.{close_sign, comma}
use Rattle.gp_values.specs.Names.{Name}
use Rattle.gp_syntax.specs.declared.tree.EdgeDecl.{EdgeDecl}
use Rattle.gp_expressions.specs.declared.ranged.Ranged.{Ranged}
use Rattle.gp_expressions.specs.Ranges.{with}
use Rattle.gp_expressions.specs.Expressions.{Tree, name}
use Rattle.gp_expressions.specs.Conditions.{label}

abbrev pub ends_of : Name → Bool → Name × (Token × (Name × (Token × ((Ranged Tree × Option Name) × Token)))) → Ranged EdgeDecl
ends_of n both (source, (_, (target, (_, (label, _))))) =
    with (λ e. record { name = n; bidirectional = both; source = source; target = target; label = e; mark = label.1 }) label.0

-- Item "," Item "," Label ")"
unfoldable pub edge_ends : Name → Bool → Grammar (Ranged Tree) → Grammar (Ranged EdgeDecl)
edge_ends n both lists =
    Made (ends_of n both) (name wants.Item followed_by One comma followed_by name wants.Item followed_by One comma followed_by label lists followed_by One close_sign)
