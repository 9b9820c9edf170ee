use Rattle.gp_certify.proofs.Told.{steps_told}
use Rattle.gp_certify.proofs.replay.ReplayTape.steps.Goals as goal

pub returns-in-Some : goal.returns-in-Some
returns-in-Some c =
    steps_told c.args.self.now (record { program = c.self.inside.program.now; host = c.self.inside.host.now.graph; items = c.self.inside.items.now }) c.args.call c.args.place c.rule.result c.set_of.result.now c.in-Some.found.now c.has_rule.result
    c.self.view_is c.self.invariant.all_go c.in-Some.ensures.some c.set_of.ensures.set c.rule.ensures c.has_rule.ensures
