-- Calls of rules and procedures.
use Rattle.gp_tokens.specs.declared.want.Want.TheVariants as wants
use Rattle.gp_tokens.specs.Grammar.{Grammar, One, Made, At, ◌followed_by◌}
use Rattle.gp_tokens.specs.SignWants.{open_brace, close_brace}
use Rattle.gp_syntax.specs.declared.tree.CommandTree.{CommandTree}
use Rattle.gp_expressions.specs.Expressions.{name, inner}
use Rattle.gp_program.specs.Commands.{rule_names, call_of, call_of_one, procedure_call}

-- RuleName | "{" [RuleName {"," RuleName}] "}" | ProcName
abbrev pub call : Grammar CommandTree
call =
    At open_brace (Made call_of (Made inner (One open_brace followed_by rule_names followed_by One close_brace)))
    (At wants.RuleName (Made call_of_one (name wants.RuleName)) (Made procedure_call (name wants.ProcedureName)))
