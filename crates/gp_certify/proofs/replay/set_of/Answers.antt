use Rattle.gp_certify.proofs.Told.{set_within}
use Rattle.gp_certify.proofs.replay.set_of.Goals as goal

pub returns-clause-within : goal.returns-clause-within
returns-clause-within c =
    set_within c.args.program.now c.parts-parts.result.now c.as_slice.result.now c.index-as_slice-call.result c.as_slice-2.result.now c.args.call c.parts-parts.ensures.value c.as_slice.ensures c.index-as_slice-call.is c.as_slice-2.ensures c.requires c.parts-parts.ensures.scoped
