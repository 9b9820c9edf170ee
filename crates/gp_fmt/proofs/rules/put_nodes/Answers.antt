use Rattle.gp_fmt.specs.Rules.{node}
use Rattle.gp_fmt.proofs.Puts.{nothing, and_then, more, all}
use Rattle.gp_fmt.proofs.rules.put_nodes.Goals as goal

pub each-init : goal.each-init
each-init c = nothing

pub each-preserved : goal.each-preserved
each-preserved c = more node c.args.nodes.now c.each-test.true c.n-item.is c.each.invariant (and_then c.sign.ensures (and_then (and_then (and_then c.name.ensures c.put_flag.ensures) (and_then c.sign-in-each.ensures c.put_label.ensures)) c.sign-in-each-2.ensures))

pub returns : goal.returns
returns c = all node c.args.nodes.now c.each-test.false c.each.invariant
