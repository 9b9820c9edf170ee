use Rattle.std.proofs.Common.{sym, ap, ◌∙◌}
use Rattle.std.specs.List.{list_any}
use Rattle.gp_syntax.specs.Tree.{pattern_of}
use Rattle.gp_eval.specs.inside.Between.{carries}
use Rattle.gp_eval.proofs.Between.{between_with, any_on, any_here, any_end}
use Rattle.gp_eval.proofs.edges.has_edge_with.Goals as goal

pub loop-e-init : goal.loop-e-init
loop-e-init c =
    let g = c.args.graph.now.graph in
    let p = carries g c.args.list.now (pattern_of c.args.mark) in
    (tt, tt, ap (λ ws. list_any p ws) c.into_iter-e-iterator.ensures.into_iter_gives ∙ between_with g c.args.source c.args.target c.args.list.now (pattern_of c.args.mark) c.edges_between-e-items.result c.edges_between-e-items.ensures.walks)

pub returns-then-carries : goal.returns-then-carries
returns-then-carries c =
    let p = carries c.args.graph.now.graph c.args.list.now (pattern_of c.args.mark) in
    any_here p c.loop-e.e-iterator c.next.new.self c.in-Some.e _ c.in-Some.ensures.steps (sym c.carries.ensures ∙ c.if-carries.true) c.loop-e.invariant.2

pub loop-e-preserved : goal.loop-e-preserved
loop-e-preserved c =
    let p = carries c.args.graph.now.graph c.args.list.now (pattern_of c.args.mark) in
    (tt, tt, any_on p c.loop-e.e-iterator c.next.new.self c.in-Some.e _ c.in-Some.ensures.steps (sym c.carries.ensures ∙ c.if-carries.false) c.loop-e.invariant.2)

pub returns : goal.returns
returns c =
    let p = carries c.args.graph.now.graph c.args.list.now (pattern_of c.args.mark) in
    any_end p c.loop-e.e-iterator _ c.in-None.ensures.steps.0 c.loop-e.invariant.2
