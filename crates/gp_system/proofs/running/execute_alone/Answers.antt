use Rattle.std.proofs.Common.{sym, subst}
use Rattle.gp_syntax.specs.Tree.{program_of_tree}
use Rattle.gp_system.specs.declared.outcome.Outcome.{Outcome}
use Rattle.gp_system.specs.Ended.{HasEnded}
use Rattle.gp_system.proofs.Runs.{ends_so}
use Rattle.gp_system.proofs.running.execute_alone.Goals as goal

pub returns : goal.returns
returns g c =
    subst (λ (o : Outcome). HasEnded g.C.Chooser.answer g.C.Chooser.next (program_of_tree c.args.program.now) c.args.host.graph c.args.terms.bound c.args.terms.keeps (g.C.Chooser.state c.args.chooser.now) (g.C.Chooser.state c.run-finish.new.chooser) o) (sym c.outcome.ensures)
    (ends_so g.C.Chooser.answer g.C.Chooser.next c.args.program.now c.args.host.graph c.args.terms.bound c.args.terms.keeps (g.C.Chooser.state c.args.chooser.now) (g.C.Chooser.state c.run-finish.new.chooser) c.run-finish.result c.new-session.result c.run-finish.new.engine c.into_ran.result c.new-session.ensures
    c.into_ran.ensures.graph c.into_ran.ensures.live_steps c.into_ran.ensures.items c.run-finish.ensures)
