use Rattle.std.proofs.Common.{◌≡◌, ◌∙◌, List, subst}
use Rattle.std.specs.Prelude.{codes}
use Rattle.gp_values.specs.Texts.{IsBegun}
use Rattle.gp_values.proofs.Labels.{on_err, begun_longer}
use Rattle.gp_fmt.specs.declared.piece.Piece.{Piece}
use Rattle.gp_fmt.specs.Spaces.{spaced}
use Rattle.gp_fmt.specs.Canonical.{declaration}
use Rattle.gp_fmt.proofs.print.print_line.Goals as goal

pub returns-in_err-write_spaced-clause-err : goal.returns-in_err-write_spaced-clause-err
returns-in_err-write_spaced-clause-err c =
    let old = c.args.text.now.items in
    let new = c.write_spaced.new.out.items in
    let e : c.deref.result.now ≡ declaration c.args.d.now = c.deref.ensures.value ∙ c.in_ok-pieces.ensures in
    on_err c.from_residual-in_err-write_spaced.result (begun_longer (spaced (declaration c.args.d.now)) (codes "\n") old new
    (subst (λ (ps : List Piece). IsBegun (spaced ps) old new) e c.in_err-write_spaced.ensures.err))
