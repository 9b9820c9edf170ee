use Rattle.std.proofs.Common.{sym, ◌∙◌, arith}
use Rattle.gp_graph.specs.inside.Sought.{is_given, behind}
use Rattle.gp_rings.proofs.Those.{step_here, step_past}
use Rattle.gp_graph.proofs.walk.Sought.first.Goals as goal

pub returns-then-gives : goal.returns-then-gives
returns-then-gives c =
    c.loop-gone.invariant ∙ step_here (is_given c.args.self.now) (behind c.args.self.now) _ c.loop-gone.at _ _ (omega arith) (sym c.gives.ensures ∙ c.if-gives.true) (omega arith) c.behind-at.ensures

pub loop-gone-preserved : goal.loop-gone-preserved
loop-gone-preserved c =
    c.loop-gone.invariant ∙ step_past (is_given c.args.self.now) (behind c.args.self.now) _ c.loop-gone.at _ _ (omega arith) (sym c.gives.ensures ∙ c.if-gives.false) (omega arith) c.behind-at.ensures
