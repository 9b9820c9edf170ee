use Rattle.gp_plan.proofs.Orders.{order_of}
use Rattle.gp_plan.proofs.Parts.{small_left}
use Rattle.gp_plan.proofs.laws.plans_are_orders.Goals as goal

pub returns : goal.returns
returns c = λ r h. order_of r (small_left r h).ends
