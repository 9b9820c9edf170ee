use Rattle.std.proofs.Common.{◌≡◌, IfSome, IfNone, map, subst}
use Rattle.gp_graph.specs.Held.{Held}
use Rattle.gp_syntax.specs.Tree.{rule_of_tree, item_of}
use Rattle.gp_certify.specs.inside.View.{IsTape}
use Rattle.gp_certify.specs.inside.Along.{BreaksOff}
use Rattle.gp_certify.specs.inside.Replay.{view_of}
use Rattle.gp_certify.proofs.Told.{graph_told, fail_told, no_graph, no_fail}
use Rattle.gp_certify.proofs.certified.certify.Goals as goal

pub returns-in_default-clause-graph : goal.returns-in_default-clause-graph
returns-in_default-clause-graph c =
    no_graph (λ (g : Held). g.graph) c.args.program.now c.args.host.now.graph c.args.items.now
    (subst (λ o. IfNone o (BreaksOff (map rule_of_tree c.args.program.now.rules) c.args.host.now.graph (map item_of c.args.items.now))) c.in_default.is c.in_ok-tape.ensures.none)

pub returns-in_default-clause-fail : goal.returns-in_default-clause-fail
returns-in_default-clause-fail c =
    no_fail c.args.program.now c.args.host.now.graph c.args.items.now
    (subst (λ o. IfNone o (BreaksOff (map rule_of_tree c.args.program.now.rules) c.args.host.now.graph (map item_of c.args.items.now))) c.in_default.is c.in_ok-tape.ensures.none)

pub returns-clause-graph : goal.returns-clause-graph
returns-clause-graph c =
    graph_told (λ (g : Held). g.graph) c.in_ok-graph.graph c.in-Some.tape c.runs_of.new.tape c.args.program.now c.args.host.now.graph c.args.items.now c.in_ok-runs.runs.gives
    (subst (λ o. IfSome o (λ r. r ≡ record { program = c.args.program.now; host = c.args.host.now.graph; items = c.args.items.now })) c.in-Some.is c.in_ok-tape.ensures.shown)
    (subst (λ o. IfSome o (λ r. IsTape (view_of r))) c.in-Some.is c.in_ok-tape.ensures.tape)
    c.runs_of.ensures.same c.in_ok-runs.ensures.gives c.in_ok-graph.ensures

pub returns-clause-fail : goal.returns-clause-fail
returns-clause-fail c =
    fail_told c.in-Some.tape c.args.program.now c.args.host.now.graph c.args.items.now c.in_ok-runs.runs.fails
    (subst (λ o. IfSome o (λ r. r ≡ record { program = c.args.program.now; host = c.args.host.now.graph; items = c.args.items.now })) c.in-Some.is c.in_ok-tape.ensures.shown)
    (subst (λ o. IfSome o (λ r. IsTape (view_of r))) c.in-Some.is c.in_ok-tape.ensures.tape)
    c.in_ok-runs.ensures.fails
