use Rattle.std.proofs.Common.{◌∙◌, ap, arith, List, [], ◌∷◌, ◌++◌}
use Rattle.opt_gate.specs.Pass.{start_of}
use Rattle.opt_worker.proofs.Batches.{one_held, may_batch}
use Rattle.opt_worker.proofs.worker.batch_of.Goals as goal

pub more-requires : goal.more-requires
more-requires g c =
    one_held (g.S.System.means c.args.s.now) (start_of c.args.gate.now).goal c.goal.result c.args.task.share c.args.task.batch c.args.at.now c.args.found c.push.new.self.items c.goal.ensures (c.in_ok-push.ensures.items ∙ ap (λ (z : List _). z ++ c.args.found ∷ []) c.new-held.ensures.items) c.requires.share c.requires.applies (omega (arith, c.requires.several))

pub returns-clause-may : goal.returns-clause-may
returns-clause-may g c =
    may_batch (g.S.System.means c.args.s.now) (start_of c.args.gate.now) c.args.pass.now c.goal.result c.args.task.share c.args.task.batch c.args.at.now c.more.new.held.items c.from_vec.result c.requires.goes_on c.goal.ensures c.requires.at c.from_vec.ensures c.more.ensures.held
