use Rattle.std.proofs.Common.{map, refl}
use Rattle.gp_syntax.specs.Tree.{rule_of_tree}
use Rattle.gp_journal.specs.Journal.{items_of}
use Rattle.gp_derivation.proofs.Told.{sets_out, goes_on, has_walked}
use Rattle.gp_derivation.proofs.walker.walk.Goals as goal

pub loop-line-init : goal.loop-line-init
loop-line-init c = sets_out (map rule_of_tree c.args.rules.now) c.args.host.graph c.args.items.items c.args.script.now _ c.at_host.ensures.start (c.at_host.ensures.of_rules (map rule_of_tree c.args.rules.now) c.requires) c.new.ensures.items

pub loop-line-preserved : goal.loop-line-preserved
loop-line-preserved c =
    goes_on (map rule_of_tree c.args.rules.now) c.args.host.graph (items_of c.args.items.items) c.args.script.now c.loop-line.line-index _ _ c.loop-line.walker c.follow.new.self c.loop-line-test.true refl c.loop-line.invariant
    (c.in_ok-follow.ensures {u = tt})

pub returns : goal.returns
returns c =
    has_walked (map rule_of_tree c.args.rules.now) c.args.host.graph (items_of c.args.items.items) c.args.script.now c.loop-line.line-index c.loop-line.walker c.loop-line-test.false c.loop-line.invariant
