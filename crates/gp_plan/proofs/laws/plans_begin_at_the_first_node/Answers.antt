use Rattle.gp_plan.proofs.Beginnings.{begins_at_first_node}
use Rattle.gp_plan.proofs.laws.plans_begin_at_the_first_node.Goals as goal

pub returns : goal.returns
returns c = begins_at_first_node
