use Rattle.std.proofs.Common.{refl}
use Rattle.gp_memory.proofs.Basics.{no_both}
use Rattle.gp_syntax.specs.Tree.{rule_of_tree}
use Rattle.gp_match.proofs.Judges.{judged_match}
use Rattle.gp_certify.proofs.Walks.{applies_at}
use Rattle.gp_certify.proofs.along.applies.Goals as goal

pub returns-in-Faulty : goal.returns-in-Faulty
returns-in-Faulty c = (
  (λ e. absurd (no_both _ refl e)),
  (λ a. absurd ((judged_match (rule_of_tree c.index-rules-number.result) c.args.graph.now.graph c.args.found.now c.parts-well_formed.ensures.well_formed).exclusive c.in-Faulty.field-0 (applies_at c.args.rules.now c.args.graph.now.graph c.args.found.now c.index-rules-number.result c.rule-number.result c.rule-number.ensures c.index-rules-number.is a) c.in-Faulty.ensures)),
)

pub returns-in-No : goal.returns-in-No
returns-in-No c = (
  (λ e. absurd (no_both _ refl e)),
  (λ a. absurd (c.in-No.ensures.0 (applies_at c.args.rules.now c.args.graph.now.graph c.args.found.now c.index-rules-number.result c.rule-number.result c.rule-number.ensures c.index-rules-number.is a))),
)
