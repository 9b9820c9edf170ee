use Rattle.std.proofs.Common.{refl}
use Rattle.gp_hostfile.proofs.Lines.{begins_nowhere}
use Rattle.gp_hostfile.proofs.text.write_graph.Goals as goal

pub returns-in_err-whole-clause-err : goal.returns-in_err-whole-clause-err
returns-in_err-whole-clause-err c = begins_nowhere c.from_residual.result c.args.graph.now.graph c.args.text.now.items c.args.text.now.items refl
