use Rattle.std.proofs.Common.{ap, subst, ◌∙◌}
use Rattle.gp_values.specs.Graph.{Graph, IsGraph}
use Rattle.gp_derivation.proofs.Followed.{room_after, makes}
use Rattle.gp_derivation.proofs.replay.Replay.make.Goals as goal

pub right_numbers-requires-clause-room : goal.right_numbers-requires-clause-room
right_numbers-requires-clause-room c =
    room_after c.args.rules.now c.args.found c.args.self.now.trail.graph c.advance.new.self.graph c.index-rules-rule.result c.rule.result c.next_edge-next.result c.next_edge-next_after.result
    c.rule.ensures c.index-rules-rule.is c.in_ok-advance.ensures.step
    (c.next_edge-next.ensures.number ∙ ap (λ (g : Graph). g.next_edge) c.graph.ensures)
    (c.next_edge-next_after.ensures.number ∙ ap (λ (g : Graph). g.next_edge) c.graph-2.ensures)
    c.next_edge-next_after.type_inv

pub returns : goal.returns
returns c =
    makes c.args.rules.now c.args.was.now c.args.found c.args.self.now _ c.index-rules-rule.result c.rule.result c.next_edge-next.result _ c.deref.result.now
    (subst IsGraph c.graph.ensures c.next_edge-next.ensures.sound) c.parts-well_formed.ensures.well_formed c.rule.ensures c.index-rules-rule.is c.in_ok-advance.ensures.step c.in_ok-advance.ensures.ok
    (c.next_edge-next.ensures.number ∙ ap (λ (g : Graph). g.next_edge) c.graph.ensures)
    c.edges.ensures.numbers (c.deref.ensures.value ∙ c.in_ok-made.ensures) c.in_ok-step.ensures c.in_ok-push.ensures.items
