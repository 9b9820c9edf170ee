use Rattle.std.proofs.Common.{List, Option, sym, subst}
use Rattle.gp_tokens.specs.declared.token.Token.{Token}
use Rattle.gp_tokens.specs.Cursor.{Reads}
use Rattle.gp_tokens.specs.Reading.{reader_of, token}
use Rattle.gp_tokens.specs.declared.want.Want.TheVariants as wants
use Rattle.gp_tokens.specs.Grammar.{One, ◌followed_by◌}
use Rattle.gp_tokens.specs.SignWants.{open_sign, close_sign, arrow}
use Rattle.gp_syntax.specs.declared.tree.RuleDecl.{RuleDecl}
use Rattle.gp_expressions.specs.declared.ranged.Ranged.{Ranged}
use Rattle.gp_expressions.specs.Expressions.{list, name}
use Rattle.gp_expressions.specs.Conditions.{condition}
use Rattle.gp_program.proofs.Steps.{four}
use Rattle.gp_program.specs.Rules.{graph, variables, rule_of, rule_with}
use Rattle.gp_program.specs.inside.RuleParts.{ends, rule_sides}
use Rattle.gp_program.proofs.rule.read_rule.Goals as goal

pub returns : goal.returns
unfolding rule_with rule_sides
returns c =
    let P : Option (Ranged RuleDecl × List Token) → Type 0 = λ read. Reads read c.read_sides.result c.read_sides.new.tokens in
    let side = graph (list c.args.room) in
    let e = four rule_of (reader_of (name wants.RuleName)) (token open_sign) (reader_of variables) (token close_sign)
    (reader_of (side followed_by One arrow followed_by side followed_by ends (condition c.args.room c.args.room)))
    c.args.tokens.now c.read_name.new.tokens c.expect.new.self c.read_variables.new.tokens c.expect-2.new.self
    c.in_ok-name.name c.in_ok-expect.field-0.now c.in_ok-variables.variables c.in_ok-expect-2.field-0.now
    c.in_ok-name.ensures c.in_ok-expect.ensures.read c.in_ok-variables.ensures c.in_ok-expect-2.ensures.read in
    subst P (sym e) c.read_sides.ensures
