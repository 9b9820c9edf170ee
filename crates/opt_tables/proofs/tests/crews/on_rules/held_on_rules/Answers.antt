use denote.Param.Send.{sendable}
use Rattle.gp_system.proofs.Crossing.{gp_sync}
use Rattle.opt_tables.proofs.tests.crews.on_rules.held_on_rules.Goals as goal

pub pursue-core-requires-sync-S : goal.pursue-core-requires-sync-S
pursue-core-requires-sync-S g c κs within = search (gp_sync, sendable)
