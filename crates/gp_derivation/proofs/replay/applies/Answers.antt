use Rattle.std.proofs.Common.{refl}
use Rattle.gp_memory.proofs.Basics.{no_both}
use Rattle.gp_syntax.specs.Tree.{rule_of_tree}
use Rattle.gp_match.proofs.Judges.{judged_match}
use Rattle.gp_derivation.proofs.replay.applies.Goals as goal

pub returns-in-Faulty : goal.returns-in-Faulty
returns-in-Faulty c = (
  (λ e. absurd (no_both _ refl e)),
  (λ a. absurd ((judged_match (rule_of_tree c.args.rule.now) c.args.graph.now.graph c.args.found.now c.parts-well_formed.ensures.well_formed).exclusive c.in-Faulty.field-0 a c.in-Faulty.ensures)),
)
