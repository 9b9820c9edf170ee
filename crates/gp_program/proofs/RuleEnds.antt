-- The end of a rule is what is read in two parts.
use Rattle.std.proofs.Common.{◌≡◌, List}
use Rattle.gp_tokens.specs.declared.token.Token.{Token}
use Rattle.gp_tokens.specs.Grammar.{Grammar}
use Rattle.gp_tokens.specs.Reading.{reader_of, made}
use Rattle.gp_expressions.specs.declared.ranged.Ranged.{Ranged}
use Rattle.gp_expressions.specs.Conditions.{CondTree}
use Rattle.gp_program.specs.declared.rule.Sides.{Sides}
use Rattle.gp_program.proofs.Turns.{in_turn}
use Rattle.gp_program.specs.inside.RuleParts.{last_of, ends, interface_part, rule_end}

pub end_parts : (s : Sides) (conditions : Grammar (Ranged CondTree)) (ts : List Token) → made (last_of s) (reader_of (ends conditions)) ts ≡ reader_of (rule_end s conditions) ts
unfolding interface_part rule_end
end_parts s conditions ts = simp in_turn
