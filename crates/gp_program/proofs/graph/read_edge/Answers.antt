use Rattle.std.proofs.Common.{List, Option, sym, subst}
use Rattle.gp_tokens.specs.declared.token.Token.{Token}
use Rattle.gp_tokens.specs.Cursor.{Reads}
use Rattle.gp_tokens.specs.Reading.{reader_of, token}
use Rattle.gp_tokens.specs.declared.want.Want.TheVariants as wants
use Rattle.gp_tokens.specs.Grammar.{One, ◌followed_by◌}
use Rattle.gp_tokens.specs.SignWants.{open_sign, close_sign, comma}
use Rattle.gp_syntax.specs.declared.tree.EdgeDecl.{EdgeDecl}
use Rattle.gp_expressions.specs.declared.ranged.Ranged.{Ranged}
use Rattle.gp_expressions.specs.Signs.{bidirectional_word}
use Rattle.gp_expressions.specs.Expressions.{list, name}
use Rattle.gp_expressions.specs.Conditions.{label}
use Rattle.gp_program.proofs.Steps.{four}
use Rattle.gp_program.specs.Rules.{flag, edge, edge_of}
use Rattle.gp_program.specs.inside.EdgeParts.{edge_ends}
use Rattle.gp_program.proofs.graph.read_edge.Goals as goal

pub returns : goal.returns
unfolding edge edge_ends
returns c =
    let P : Option (Ranged EdgeDecl × List Token) → Type 0 = λ read. Reads read c.read_ends.result c.read_ends.new.tokens in
    let e = four edge_of (token open_sign) (reader_of (name wants.Item)) (reader_of (flag bidirectional_word)) (token comma)
    (reader_of (name wants.Item followed_by One comma followed_by name wants.Item followed_by One comma followed_by label (list c.args.lists) followed_by One close_sign))
    c.args.tokens.now c.expect.new.self c.read_name.new.tokens c.read_flag.new.tokens c.expect-2.new.self
    c.in_ok-expect.field-0.now c.in_ok-name.name c.in_ok-bidirectional.bidirectional c.in_ok-expect-2.field-0.now
    c.in_ok-expect.ensures.read c.in_ok-name.ensures c.in_ok-bidirectional.ensures c.in_ok-expect-2.ensures.read in
    subst P (sym e) c.read_ends.ensures
