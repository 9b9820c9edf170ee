use Rattle.std.proofs.Common.{◌∙◌, sym, ap}
use Rattle.opt_gate.specs.Lists.{times}
use Rattle.opt_gate.proofs.gate.GateOf+Core+S+S+Found+S+Reason+GateRule+S+S+Goal.close.Goals as goal

pub returns-clause-each_once : goal.returns-clause-each_once
returns-clause-each_once g c = λ full place.
    let keyed = ap (λ p. p.key) c.pass.view_is ∙ c.requires.1 in
    let room = sym c.pass.invariant.1 ∙ (ap (λ p. p.room) c.pass.view_is ∙ full) in
    ap (λ own. times place own) (sym (ap (λ p. p.own) c.pass.view_is)) ∙ c.take.ensures.took.learns.shows.all_own c.args.self.key keyed room place
