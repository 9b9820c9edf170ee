use Rattle.std.proofs.Common.{refl}
use Rattle.std.proofs.lemmas.Result.{on_ok_weaker}
use Rattle.gp_derivation.proofs.Told.{shows}
use Rattle.gp_derivation.proofs.walker.Walker.show.Goals as goal

pub returns : goal.returns
returns c = on_ok_weaker c.write_graph.result (λ writes rules of_rules. shows rules c.args.self.now _ of_rules c.graph-graph.result.now.graph writes c.graph-graph.ensures refl) c.write_graph.ensures.ok
