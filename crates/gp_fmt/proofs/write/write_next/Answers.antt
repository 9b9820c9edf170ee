use Rattle.std.proofs.Common.{◌++◌, ap, ◌∙◌}
use Rattle.gp_fmt.specs.Pieces.{text_of}
use Rattle.gp_fmt.specs.Spaces.{gap}
use Rattle.gp_fmt.proofs.Written.{begun_then}
use Rattle.gp_fmt.proofs.write.write_next.Goals as goal

pub returns-clause-err : goal.returns-clause-err
returns-clause-err c =
    begun_then c.write_piece.result (gap c.args.one.now c.args.next.now) (text_of c.args.next.now) c.args.out.now.items c.write_text.new.out.items c.write_piece.new.out.items
    (c.in_ok-write_text.ensures.ok ∙ ap (λ l. c.args.out.now.items ++ l) c.gap.ensures) c.write_piece.ensures.err
