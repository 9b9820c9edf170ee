-- Rules, read from their sides on, and from behind these.
use Rattle.std.specs.Prelude.{List, Option}
use Rattle.std.specs.Option.{option_or}
use Rattle.gp_tokens.specs.declared.token.Token.{Token}
use Rattle.gp_tokens.specs.Grammar.{Grammar, One, Made, ◌followed_by◌}
use Rattle.gp_tokens.specs.SignWants.{open_brace, close_brace, equal, arrow}
use Rattle.gp_values.specs.Names.{Name}
use Rattle.gp_syntax.specs.declared.tree.VariableGroup.{VariableGroup}
use Rattle.gp_syntax.specs.declared.tree.GraphDecl.{GraphDecl}
use Rattle.gp_syntax.specs.declared.tree.RuleDecl.{RuleDecl}
use Rattle.gp_expressions.specs.declared.ranged.Ranged.{Ranged}
use Rattle.gp_expressions.specs.Signs.{interface_word}
use Rattle.gp_expressions.specs.Expressions.{Tree}
use Rattle.gp_expressions.specs.Conditions.{CondTree}
use Rattle.gp_program.specs.declared.rule.Sides.{Sides}
use Rattle.gp_program.specs.Rules.{graph, interface, where_part}

abbrev pub whole_rule : Sides → List Name → Ranged (Option CondTree) → Ranged RuleDecl
whole_rule s interface condition = record {
  tree = record { name = s.name; variables = s.variables; left = s.left.tree; right = s.right.tree; interface = interface; condition = condition.tree };
  past = option_or s.left.past (option_or s.right.past condition.past);
}

abbrev pub End : Type 0
End = Token × (Token × (Token × (List Name × (Token × Ranged (Option CondTree)))))

abbrev pub last_of : Sides → End → Ranged RuleDecl
last_of s (_, (_, (_, (interface, (_, condition))))) = whole_rule s interface condition

-- "interface" "=" "{" [Item {"," Item}] "}" ["where" Cond]
abbrev pub ends : Grammar (Ranged CondTree) → Grammar End
ends conditions = One interface_word followed_by One equal followed_by One open_brace followed_by interface followed_by One close_brace followed_by where_part conditions

abbrev pub names_of : Token × (Token × (Token × (List Name × Token))) → List Name
names_of (_, (_, (_, (names, _)))) = names

-- "interface" "=" "{" [Item {"," Item}] "}"
unfoldable pub interface_part : Grammar (List Name)
interface_part = Made names_of (One interface_word followed_by One equal followed_by One open_brace followed_by interface followed_by One close_brace)

abbrev pub end_of : Sides → List Name × Ranged (Option CondTree) → Ranged RuleDecl
end_of s (interface, condition) = whole_rule s interface condition

-- the same in two parts
unfoldable pub rule_end : Sides → Grammar (Ranged CondTree) → Grammar (Ranged RuleDecl)
rule_end s conditions = Made (end_of s) (interface_part followed_by where_part conditions)

abbrev pub sides_of : Name → List VariableGroup → Ranged GraphDecl × (Token × (Ranged GraphDecl × End)) → Ranged RuleDecl
sides_of n variables (left, (_, (right, end))) = last_of (record { name = n; variables = variables; left = left; right = right }) end

-- Graph "=>" Graph, and what is behind them
unfoldable pub rule_sides : Name → List VariableGroup → Grammar (Ranged Tree) → Grammar (Ranged CondTree) → Grammar (Ranged RuleDecl)
rule_sides n variables lists conditions = Made (sides_of n variables) (graph lists followed_by One arrow followed_by graph lists followed_by ends conditions)
