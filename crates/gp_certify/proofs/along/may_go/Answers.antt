use Rattle.std.proofs.Common.{IfOk, map, subst}
use Rattle.std.specs.Bool.{Decides}
use Rattle.gp_values.specs.Graph.{Graph}
use Rattle.gp_syntax.specs.Tree.{rule_of_tree}
use Rattle.gp_journal.specs.Leads.{AppliesBy}
use Rattle.gp_certify.proofs.along.may_go.Goals as goal

pub returns-in-Step : goal.returns-in-Step
returns-in-Step c = rw c.in-Step.is (subst (λ (g : Graph). IfOk c.applies.result (λ b. Decides b (AppliesBy (map rule_of_tree c.args.rules.now) g c.in-Step.found))) c.graph.ensures c.applies.ensures)
