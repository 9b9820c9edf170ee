use denote.Param.Send.{sendable}
use Rattle.gp_syntax.proofs.Crossing.{rule_sync}
use Rattle.gp_syntax.proofs.sharing.rule_may_be_shared.Goals as goal

pub may_be_shared-requires-sync-T : goal.may_be_shared-requires-sync-T
may_be_shared-requires-sync-T c κs = search (rule_sync, sendable)
