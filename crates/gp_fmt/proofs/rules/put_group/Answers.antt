use Rattle.std.proofs.Common.{◌≡◌, [], ◌∷◌, ◌++◌, refl}
use Rattle.gp_tokens.specs.declared.token.Kind.TheVariants as k
use Rattle.gp_fmt.specs.declared.piece.Piece.TheVariants as p
use Rattle.gp_fmt.specs.Commands.{names_behind}
use Rattle.gp_fmt.specs.Rules.{variable_group}
use Rattle.gp_fmt.proofs.Puts.{and_then, told}
use Rattle.gp_fmt.proofs.rules.put_group.Goals as goal

pub returns : goal.returns
returns c =
    let g = c.args.group.now in
    let e : variable_group g ≡ p.Name g.first ∷ names_behind c.as_slice.result.now ++ p.Sign k.Colon ∷ p.Word c.type_keyword.result ∷ [] = rw (c.as_slice.ensures, c.type_keyword.ensures) refl in
    told e (and_then c.name.ensures (and_then c.put_names_behind.ensures (and_then c.sign.ensures c.word.ensures)))
