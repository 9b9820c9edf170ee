use Rattle.std.proofs.Common.{map}
use Rattle.gp_syntax.specs.Tree.{rule_of_tree}
use Rattle.gp_journal.proofs.Trails.{goes_by_step, only_by_step}
use Rattle.gp_derivation.proofs.forward.step.Goals as goal

pub returns-in-Ok-clause-goes : goal.returns-in-Ok-clause-goes
returns-in-Ok-clause-goes c =
    let rules = map rule_of_tree c.args.rules.now in
    record {
      goes = goes_by_step rules c.args.standing.now.trail c.advance.new.self c.args.found.now c.in-Ok.ensures.ok c.in-Ok.ensures.step;
      only = only_by_step rules c.args.standing.now.trail c.advance.new.self c.args.found.now c.in-Ok.ensures.ok c.in-Ok.ensures.only;
    }
