use Rattle.std.proofs.Common.{refl, map}
use Rattle.gp_syntax.specs.Tree.{item_of}
use Rattle.gp_trace.proofs.Writes.{nothing_written}
use Rattle.gp_trace.proofs.writer.write_trace.Goals as goal

pub returns-in_err-whole-clause-err : goal.returns-in_err-whole-clause-err
returns-in_err-whole-clause-err c = nothing_written c.from_residual.result (map item_of c.args.items.now) c.args.text.now.items c.args.text.now.items refl

pub returns-in_err-extend_from_slice-clause-err : goal.returns-in_err-extend_from_slice-clause-err
returns-in_err-extend_from_slice-clause-err c = nothing_written c.from_residual-in_err-extend_from_slice.result (map item_of c.args.items.now) c.args.text.now.items c.extend_from_slice.new.self.items c.in_err-extend_from_slice.ensures.items
