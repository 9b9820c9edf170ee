use Rattle.std.proofs.Common.{map, sym, ap, ◌∙◌}
use Rattle.gp_journal.specs.Trail.{Trail, led}
use Rattle.gp_run_cases.proofs.runs.replay.go_on.Goals as goal

pub returns : goal.returns
returns c =
    let made = c.in_ok-advance.ensures.ok in
    λ _. (c.advance.new.self.graph, c.in_ok-advance.ensures.step, made ∙ ap (led c.args.at.now) (sym (ap (λ (t : Trail). t.graph) made)))
