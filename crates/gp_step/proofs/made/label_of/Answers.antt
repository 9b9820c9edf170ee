use Rattle.gp_step.proofs.Labels.{images_are_nodes}
use Rattle.gp_step.proofs.made.label_of.Goals as goal

pub value-requires-clause-nodes : goal.value-requires-clause-nodes
value-requires-clause-nodes c =
    rw c.nodes.ensures (images_are_nodes _ _ _ _ c.scene.invariant.applies.is_match)
