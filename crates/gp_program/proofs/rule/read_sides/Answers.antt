use Rattle.std.proofs.Common.{List, Option, sym, subst, ◌∙◌}
use Rattle.gp_tokens.specs.declared.token.Token.{Token}
use Rattle.gp_tokens.specs.Cursor.{Reads}
use Rattle.gp_tokens.specs.Reading.{reader_of, token}
use Rattle.gp_tokens.specs.SignWants.{arrow}
use Rattle.gp_syntax.specs.declared.tree.RuleDecl.{RuleDecl}
use Rattle.gp_expressions.specs.declared.ranged.Ranged.{Ranged}
use Rattle.gp_expressions.specs.Expressions.{list}
use Rattle.gp_expressions.specs.Conditions.{condition}
use Rattle.gp_program.proofs.RuleEnds.{end_parts}
use Rattle.gp_program.proofs.Steps.{three}
use Rattle.gp_program.specs.declared.rule.Sides.{Sides}
use Rattle.gp_program.specs.Rules.{graph}
use Rattle.gp_program.specs.inside.RuleParts.{sides_of, ends, rule_sides}
use Rattle.gp_program.proofs.rule.read_sides.Goals as goal

pub returns : goal.returns
unfolding rule_sides
returns c =
    let P : Option (Ranged RuleDecl × List Token) → Type 0 = λ read. Reads read c.read_end.result c.read_end.new.tokens in
    let side = reader_of (graph (list c.args.room)) in
    let e = three (sides_of c.args.name c.args.variables) side (token arrow) side (reader_of (ends (condition c.args.room c.args.room)))
    c.args.tokens.now c.read_graph.new.tokens c.expect.new.self c.read_graph-2.new.tokens c.in_ok-left.left c.in_ok-expect.field-0.now c.in_ok-right.right
    c.in_ok-left.ensures c.in_ok-expect.ensures.read c.in_ok-right.ensures in
    let s : Sides = record { name = c.args.name; variables = c.args.variables; left = c.in_ok-left.left; right = c.in_ok-right.right } in
    subst P (sym (e ∙ end_parts s (condition c.args.room c.args.room) c.read_graph-2.new.tokens)) c.read_end.ensures
