use Rattle.std.proofs.Common.{◌≡◌, ◌∙◌, List, All, sym, subst, arith}
use denote.Param.Send.{sendable}
use Rattle.gp_journal.specs.Trail.{Trail}
use Rattle.gp_system.specs.inside.Pursued.{IsBehind}
use Rattle.gp_system.proofs.Crossing.{gp_sync}
use Rattle.gp_system.proofs.Crews.{behind_all, all_written}
use Rattle.gp_system.proofs.pursuit.pursue_goal.Goals as goal

pub pursue-core-requires-sync-S : goal.pursue-core-requires-sync-S
pursue-core-requires-sync-S g c κs = search (gp_sync, sendable)

pub level-requires : goal.level-requires
level-requires g c =
    subst (λ (l : List Trail). All (IsBehind c.args.system.now c.deref.result.now c.into_parts-trail.result.0) l) (sym c.deref_mut.ensures.value)
    (behind_all c.args.system.now c.pursue-core.result.0 c.in-Ok.core.base c.into_parts-trail.result.0 c.deref.result.now c.pursue-core.result.1.items c.pursue-core.ensures.legal c.pursue-core.ensures.start.base c.into_parts-trail.ensures.state (c.deref.ensures.value ∙ c.into_parts-trail.ensures.entries) c.pursue-core.ensures.follow)

pub whole-requires-clause-there : goal.whole-requires-clause-there
whole-requires-clause-there g c =
    all_written (λ (t : Trail). t ≡ c.into_parts-trail.result.0) c.pursue-core.result.1.len c.level.new.replicas _ (omega (arith, c.in_ok-level.ensures.len, c.deref_mut.ensures.len)) c.in_ok-level.ensures.all
