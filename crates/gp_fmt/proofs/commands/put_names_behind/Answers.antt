use Rattle.std.proofs.Common.{[], ◌∷◌}
use Rattle.gp_tokens.specs.declared.token.Kind.TheVariants as k
use Rattle.gp_fmt.specs.declared.piece.Piece.TheVariants as p
use Rattle.gp_fmt.proofs.Puts.{nothing, and_then, more, all}
use Rattle.gp_fmt.proofs.commands.put_names_behind.Goals as goal

pub each-init : goal.each-init
each-init c = nothing

pub each-preserved : goal.each-preserved
each-preserved c = more (λ n. p.Sign k.Comma ∷ p.Name n ∷ []) c.args.names.now c.each-test.true c.name-item.is c.each.invariant (and_then c.sign.ensures c.name.ensures)

pub returns : goal.returns
returns c = all (λ n. p.Sign k.Comma ∷ p.Name n ∷ []) c.args.names.now c.each-test.false c.each.invariant
