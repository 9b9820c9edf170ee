use denote.Param.Send.{sendable}
use Rattle.gp_system.proofs.Crossing.{gp_sync}
use Rattle.gp_system.proofs.sharing.gp_may_be_shared.Goals as goal

pub may_be_shared-requires-sync-T : goal.may_be_shared-requires-sync-T
may_be_shared-requires-sync-T c κs = search (gp_sync, sendable)
