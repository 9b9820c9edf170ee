-- Threads may share the rules of a program as a system.
use denote.Ref.{NamedLft}
use denote.Param.Send.{IsSync, sendable}
use Rattle.std.proofs.Crossing.{crosses}
use Rattle.gp_syntax.proofs.Items.TheSendSync as items
use Rattle.gp_syntax.proofs.Crossing.{rule_sync}
use Rattle.gp_plan.proofs.operation.Plan.TheSendSync as plan
use Rattle.gp_system.specs.contracts.gp.Gp as gp

pub gp_sync : (κ : NamedLft) → IsSync (gp.the_row κ)
gp_sync κ = search (rule_sync, sendable, items.the_sync, plan.the_sync, crosses) depth 20
