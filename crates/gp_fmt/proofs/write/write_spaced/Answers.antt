use Rattle.std.proofs.Common.{List, sym, subst}
use Rattle.std.specs.Prelude.{OnErr}
use Rattle.gp_values.specs.Texts.{IsBegun}
use Rattle.gp_values.proofs.Labels.{on_err, begun_longer}
use Rattle.gp_fmt.specs.declared.piece.Piece.{Piece}
use Rattle.gp_fmt.specs.Pieces.{text_of}
use Rattle.gp_fmt.specs.Spaces.{spaced_behind, spaced}
use Rattle.gp_fmt.proofs.Written.{begun_then}
use Rattle.gp_fmt.proofs.write.write_spaced.Goals as goal

pub returns-in_err-write_piece-in-Some-clause-err : goal.returns-in_err-write_piece-in-Some-clause-err
returns-in_err-write_piece-in-Some-clause-err c =
    let old = c.args.out.now.items in
    let new = c.write_piece.new.out.items in
    let first = c.in-Some.first.now in
    let others = c.in-Some.others.now in
    on_err c.from_residual.result (subst (λ (ps : List Piece). IsBegun (spaced ps) old new) (sym c.in-Some.ensures.cases.0)
    (begun_longer (text_of first) (spaced_behind first others) old new c.in_err-write_piece-in-Some.ensures.err))

pub returns-in_ok-write_piece-in-Some-clause-err : goal.returns-in_ok-write_piece-in-Some-clause-err
returns-in_ok-write_piece-in-Some-clause-err c =
    let old = c.args.out.now.items in
    let new = c.write_behind.new.out.items in
    let first = c.in-Some.first.now in
    let others = c.in-Some.others.now in
    subst (λ (ps : List Piece). OnErr c.write_behind.result (IsBegun (spaced ps) old new)) (sym c.in-Some.ensures.cases.0)
    (begun_then c.write_behind.result (text_of first) (spaced_behind first others) old c.write_piece.new.out.items new c.in_ok-write_piece-in-Some.ensures.ok c.write_behind.ensures.err)
