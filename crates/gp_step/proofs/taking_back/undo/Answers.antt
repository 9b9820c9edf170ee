use Rattle.std.proofs.Common.{◌-◌, ◌+◌, ◌++◌, replicate, reverse}
use Rattle.gp_step.specs.declared.inverse.Inverse.TheVariants.{DropNode, DropEdge}
use Rattle.gp_step.proofs.Notes.{popped}
use Rattle.gp_step.proofs.Undoing.{may_next, next_left, counts_down}
use Rattle.gp_step.proofs.taking_back.undo.Goals as goal

pub edges-preserved : goal.edges-preserved
edges-preserved c =
    let u = c.undo.inside in
    let rest = replicate u.nodes DropNode ++ reverse u.taken.items in
    next_left DropEdge (replicate (u.edges - c.edges.counter) DropEdge ++ rest) (replicate (u.edges - (c.edges.counter + 1)) DropEdge ++ rest) c.args.undo c.edges.graph.graph
    c.take_back.new.graph.graph c.args.graph.now.graph (counts_down DropEdge u.edges c.edges.counter rest c.edges-test.true) c.take_back.ensures c.edges.invariant

pub nodes-preserved : goal.nodes-preserved
nodes-preserved c =
    let u = c.undo.inside in
    let rest = reverse u.taken.items in
    next_left DropNode (replicate (u.nodes - c.nodes.counter) DropNode ++ rest) (replicate (u.nodes - (c.nodes.counter + 1)) DropNode ++ rest) c.args.undo c.nodes.graph.graph
    c.take_back-in-nodes.new.graph.graph c.args.graph.now.graph (counts_down DropNode u.nodes c.nodes.counter rest c.nodes-test.true) c.take_back-in-nodes.ensures c.nodes.invariant

pub take_back-requires : goal.take_back-requires
take_back-requires c =
    let u = c.undo.inside in
    let rest = replicate u.nodes DropNode ++ reverse u.taken.items in
    may_next DropEdge (replicate (u.edges - c.edges.counter) DropEdge ++ rest) (replicate (u.edges - (c.edges.counter + 1)) DropEdge ++ rest) c.args.undo c.edges.graph.graph
    c.args.graph.now.graph (counts_down DropEdge u.edges c.edges.counter rest c.edges-test.true) c.edges.invariant

pub take_back-requires-in-nodes : goal.take_back-requires-in-nodes
take_back-requires-in-nodes c =
    let u = c.undo.inside in
    let rest = reverse u.taken.items in
    may_next DropNode (replicate (u.nodes - c.nodes.counter) DropNode ++ rest) (replicate (u.nodes - (c.nodes.counter + 1)) DropNode ++ rest) c.args.undo c.nodes.graph.graph
    c.args.graph.now.graph (counts_down DropNode u.nodes c.nodes.counter rest c.nodes-test.true) c.nodes.invariant

pub take_back-requires-in-Some : goal.take_back-requires-in-Some
take_back-requires-in-Some c =
    may_next c.in-Some.inverse (reverse c.taken.taken.items) (reverse c.pop.new.self.items) c.args.undo c.taken.graph.graph c.args.graph.now.graph
    (popped c.taken.taken.items c.pop.new.self.items c.in-Some.inverse c.in-Some.ensures.items) c.taken.invariant

pub taken-preserved : goal.taken-preserved
taken-preserved c =
    next_left c.in-Some.inverse (reverse c.taken.taken.items) (reverse c.pop.new.self.items) c.args.undo c.taken.graph.graph c.take_back-in-Some.new.graph.graph c.args.graph.now.graph
    (popped c.taken.taken.items c.pop.new.self.items c.in-Some.inverse c.in-Some.ensures.items) c.take_back-in-Some.ensures c.taken.invariant
