use Rattle.std.proofs.Common.{length, map}
use Rattle.gp_syntax.specs.Tree.{rule_of_tree, item_of}
use Rattle.gp_certify.specs.inside.Replay.{Shown}
use Rattle.gp_certify.proofs.Told.{depth_read, back_below, back_told, ordered_within}
use Rattle.gp_certify.proofs.replay.ReplayTape.takes_back.Goals as goal

pub overflow_sub-result : goal.overflow_sub-result
overflow_sub-result c =
    let t : Shown = record { program = c.self.inside.program.now; host = c.self.inside.host.now.graph; items = c.self.inside.items.now } in
    let w = ordered_within c.args.self.now t c.args.from c.args.place c.self.view_is c.requires in
    back_below c.args.self.now t c.args.from c.args.place c.index-depth.result.now c.index-depth_before.result.now c.self.view_is c.requires
    (depth_read (map rule_of_tree t.program.rules) t.host (map item_of t.items) (length t.items) c.args.place c.index-depth.result.now _ c.self.inside.depths.items c.self.invariant.are_depths w.1 c.index-depth.ensures)
    (depth_read (map rule_of_tree t.program.rules) t.host (map item_of t.items) (length t.items) c.args.from c.index-depth_before.result.now _ c.self.inside.depths.items c.self.invariant.are_depths w.0 c.index-depth_before.ensures)

pub returns-in-Some : goal.returns-in-Some
returns-in-Some c =
    let t : Shown = record { program = c.self.inside.program.now; host = c.self.inside.host.now.graph; items = c.self.inside.items.now } in
    let w = ordered_within c.args.self.now t c.args.from c.args.place c.self.view_is c.requires in
    back_told c.args.self.now t c.args.from c.args.place c.in-Some.count c.index-depth.result.now c.index-depth_before.result.now c.self.view_is c.requires c.in-Some.ensures.some
    (depth_read (map rule_of_tree t.program.rules) t.host (map item_of t.items) (length t.items) c.args.place c.index-depth.result.now _ c.self.inside.depths.items c.self.invariant.are_depths w.1 c.index-depth.ensures)
    (depth_read (map rule_of_tree t.program.rules) t.host (map item_of t.items) (length t.items) c.args.from c.index-depth_before.result.now _ c.self.inside.depths.items c.self.invariant.are_depths w.0 c.index-depth_before.ensures)
