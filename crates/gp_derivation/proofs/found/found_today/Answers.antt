use Rattle.std.proofs.Common.{ap, ◌∙◌}
use Rattle.gp_syntax.specs.Images.{EdgeImage}
use Rattle.gp_derivation.specs.inside.Table.{today}
use Rattle.gp_derivation.proofs.Rights.{begins, next_begun, none_today, begun_all}
use Rattle.gp_derivation.proofs.found.found_today.Goals as goal

pub loop-image-init : goal.loop-image-init
loop-image-init c = begins c.args.table.now.now c.args.was.now c.edges-image-items.result.now c.nodes-node-items.result.now c.loop-node.node-index c.loop-node.found c.loop-node.invariant c.loop-node-test.false c.nodes-node-items.ensures

pub loop-image-preserved : goal.loop-image-preserved
loop-image-preserved c = next_begun c.args.table.now.now c.args.was.now c.edges-image-items.result.now c.loop-image.image-index c.in-Some.number _ c.loop-image.found c.push_edge.new.self c.loop-image-test.true (c.in-Some.ensures ∙ ap (today c.args.table.now.now) (c.number.ensures ∙ ap (λ (j : EdgeImage). j.number) c.image-item.is)) (rw (c.new.ensures, c.reversed.ensures, c.image-item.is) at c.in_ok-push_edge.ensures.ok) c.loop-image.invariant

pub returns-in_default : goal.returns-in_default
returns-in_default c = none_today c.args.table.now.now c.args.was.now c.edges-image-items.result.now c.loop-image.image-index _ c.loop-image.found c.loop-image-test.true (c.in_default.ensures ∙ ap (today c.args.table.now.now) (c.number.ensures ∙ ap (λ (j : EdgeImage). j.number) c.image-item.is)) c.edges-image-items.ensures.numbers c.loop-image.invariant

pub returns : goal.returns
returns c = begun_all c.args.table.now.now c.args.was.now c.edges-image-items.result.now c.loop-image.image-index c.loop-image.found c.loop-image-test.false c.edges-image-items.ensures.numbers c.edges-image-items.ensures.directions c.loop-image.invariant
