use Rattle.std.proofs.Common.{◌≡◌, ◌∷◌, ◌++◌, map, ◌+◌, ◌≤◌, sym, ap, ◌∙◌, arith}
use Rattle.gp_tokens.specs.declared.token.Kind.TheVariants as k
use Rattle.gp_fmt.specs.declared.piece.Piece.TheVariants as p
use Rattle.gp_fmt.specs.Commands.{command}
use Rattle.gp_fmt.specs.Canonical.{declaration, locals}
use Rattle.gp_fmt.specs.inside.Sizes.{declaration_size, declaration_sizes}
use Rattle.gp_fmt.proofs.Forms.{locals_are, of-Declared, of-Rule}
use Rattle.gp_fmt.proofs.Puts.{nothing, and_then, told, more, all}
use Rattle.gp_fmt.proofs.Sizes.{size_within, declaration_size-Procedure}
use Rattle.gp_fmt.proofs.declarations.+declaration.Goals as goal

pub put_declaration-returns-in-Procedure : goal.put_declaration-returns-in-Procedure
put_declaration-returns-in-Procedure t c =
    let e : declaration c.args.d.now ≡ p.Name c.in-Procedure.name ∷ p.Sign k.Equal ∷ locals (map declaration c.as_slice.result.now) ++ command c.in-Procedure.body = rw (c.as_slice.ensures) (ap declaration c.in-Procedure.is ∙ (of-Declared c.in-Procedure.name c.in-Procedure.declarations c.in-Procedure.body)) in
    told e (and_then c.name.ensures (and_then c.sign.ensures (and_then c.put_locals.ensures c.put_command.ensures)))

pub put_declaration-returns-in-Rule : goal.put_declaration-returns-in-Rule
put_declaration-returns-in-Rule t c =
    told (ap declaration c.in-Rule.is ∙ (of-Rule c.in-Rule.r)) c.put_rule.ensures

pub put_declaration-put_locals-requires : goal.put_declaration-put_locals-requires
put_declaration-put_locals-requires t c =
    let z : declaration_size c.args.d.now ≡ 1 + declaration_sizes c.as_slice.result.now = rw (c.as_slice.ensures) (ap declaration_size c.in-Procedure.is ∙ declaration_size-Procedure c.in-Procedure.name c.in-Procedure.declarations c.in-Procedure.body) in
    (omega arith, tt)

pub put_locals-put_declaration-requires : goal.put_locals-put_declaration-requires
put_locals-put_declaration-requires t c =
    let l : declaration_size c.d-item.result ≤ declaration_sizes c.args.declarations.now = size_within declaration_size c.args.declarations.now c.each.d-index c.d-item.result c.each-test.true c.d-item.is in
    (omega arith, tt)

pub put_locals-returns : goal.put_locals-returns
put_locals-returns t c =
    told (locals_are c.args.declarations.now (sym c.is_empty.ensures ∙ c.if-is_empty.false)) (and_then c.sign.ensures (and_then (all declaration c.args.declarations.now c.each-test.false c.each.invariant) c.sign-2.ensures))

pub put_locals-each-init : goal.put_locals-each-init
put_locals-each-init t c = nothing

pub put_locals-each-preserved : goal.put_locals-each-preserved
put_locals-each-preserved t c = more declaration c.args.declarations.now c.each-test.true c.d-item.is c.each.invariant c.put_declaration.ensures
