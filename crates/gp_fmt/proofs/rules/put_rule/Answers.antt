use Rattle.std.proofs.Common.{◌≡◌, ◌∷◌, ◌++◌, refl}
use Rattle.gp_tokens.specs.declared.token.Kind.TheVariants as k
use Rattle.gp_tokens.specs.declared.keyword.Keyword.TheVariants as words
use Rattle.gp_fmt.specs.declared.piece.Piece.TheVariants as p
use Rattle.gp_fmt.specs.Expressions.{in_parentheses}
use Rattle.gp_fmt.specs.Commands.{names, in_braces}
use Rattle.gp_fmt.specs.Rules.{variables, graph, where_part, rule}
use Rattle.gp_fmt.proofs.Puts.{and_then, told}
use Rattle.gp_fmt.proofs.rules.put_rule.Goals as goal

pub returns : goal.returns
returns c =
    let r = c.args.r.now in
    let e : rule r ≡ p.Name r.name ∷ in_parentheses (variables c.as_slice.result.now) ++ graph r.left ++ p.Sign k.Arrow ∷ graph r.right ++ p.Word words.Interface ∷ p.Sign k.Equal ∷ in_braces (names c.as_slice-2.result.now) ++ where_part r.condition = rw (c.as_slice.ensures, c.as_slice-2.ensures) refl in
    let head = and_then c.name.ensures (and_then c.sign.ensures (and_then c.put_variables.ensures c.sign-2.ensures)) in
    let sides = and_then (and_then head c.put_graph.ensures) (and_then c.sign-3.ensures c.put_graph-2.ensures) in
    told e (and_then (and_then sides (and_then c.word.ensures (and_then c.sign-4.ensures c.put_set.ensures))) c.put_where.ensures)
