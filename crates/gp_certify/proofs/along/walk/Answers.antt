use Rattle.std.proofs.Common.{◌∙◌, List, ℕ, [], ◌∷◌, ◌++◌, map, length, ap, arith}
use Rattle.gp_memory.proofs.Basics.{no_both}
use Rattle.gp_syntax.specs.Tree.{rule_of_tree, item_of}
use Rattle.gp_journal.specs.Trail.{fresh}
use Rattle.gp_certify.proofs.Walks.{item_there, walked_none, walked_more, walked_whole, breaks_off}
use Rattle.gp_certify.proofs.along.walk.Goals as goal

pub returns-then-not-branch-clause-none : goal.returns-then-not-branch-clause-none
returns-then-not-branch-clause-none c =
    breaks_off (map rule_of_tree c.args.rules.now) c.args.host.now.graph (map item_of c.args.items.now) c.loop-n.n (item_of c.index-items-n.result) c.loop-n.depths.items c.loop-n.trail c.requires.well_formed c.requires.host
    (item_there c.args.items.now c.loop-n.n c.index-items-n.result (omega arith) c.index-items-n.is) c.loop-n.invariant.walked
    (λ m. no_both _ c.if-not-branch.true (c.in_ok-may_go.ensures.1 m))

pub push_reserved-requires-in-loop-n : goal.push_reserved-requires-in-loop-n
push_reserved-requires-in-loop-n c = (let count = c.loop-n.invariant.walked.are_depths.count in omega (arith, c.loop-n.invariant.room, c.loop-n.depths.ok.0))

pub loop-n-preserved : goal.loop-n-preserved
loop-n-preserved c = record {
  walked = walked_more (map rule_of_tree c.args.rules.now) c.args.host.now.graph (map item_of c.args.items.now) c.loop-n.n (item_of c.index-items-n.result) c.loop-n.depths.items c.push_reserved-in-loop-n.new.self.items c.loop-n.trail c.make.new.trail
      (item_there c.args.items.now c.loop-n.n c.index-items-n.result (omega arith) c.index-items-n.is) c.loop-n.invariant.walked c.in_ok-make.ensures.goes c.in_ok-make.ensures.made
      (c.push_reserved-in-loop-n.ensures.items ∙ ap (λ (z : ℕ). c.loop-n.depths.items ++ z ∷ []) c.depth.ensures);
  room = omega (arith, c.loop-n.invariant.room, c.push_reserved-in-loop-n.ensures.capacity);
}

pub loop-n-init : goal.loop-n-init
loop-n-init c = record {
  walked = walked_none (map rule_of_tree c.args.rules.now) c.args.host.now.graph (map item_of c.args.items.now) c.push_reserved.new.self.items c.new-trail.result
      (c.push_reserved.ensures.items ∙ ap (λ (z : List ℕ). z ++ 0 ∷ []) c.in_ok-depths.ensures.items) (c.new-trail.ensures ∙ ap fresh c.in_ok-copy.ensures);
  room = omega (arith, c.in_ok-depths.ensures.capacity, c.push_reserved.ensures.capacity);
}

pub returns-clause-walked : goal.returns-clause-walked
returns-clause-walked c =
    walked_whole (map rule_of_tree c.args.rules.now) c.args.host.now.graph (map item_of c.args.items.now) c.loop-n.n (length c.args.items.now) c.loop-n.depths.items c.loop-n.trail (omega arith) c.loop-n.invariant.walked
