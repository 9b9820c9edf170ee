use Rattle.std.proofs.Common.{ap, length, ◌∙◌}
use Rattle.std.proofs.lemmas.List.{length-map}
use Rattle.gp_syntax.specs.Rule.{kept_nodes}
use Rattle.gp_step.specs.inside.Scene.{rule_at}
use Rattle.gp_step.proofs.Halves.{length-images}
use Rattle.gp_step.proofs.changes.changes_of.Goals as goal

pub made_edges-requires : goal.made_edges-requires
made_edges-requires c =
    let r = rule_at c.args.scene.now in
    ap length (c.deref.ensures ∙ c.in_ok-placed.ensures.images) ∙ length-images c.args.scene.now.found.nodes (kept_nodes r) c.args.scene.now.graph.next_node ∙ length-map r.right_nodes _ ∙ length-map c.args.scene.now.parts.right_nodes _
