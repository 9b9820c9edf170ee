use Rattle.gp_fmt.specs.Rules.{edge}
use Rattle.gp_fmt.proofs.Puts.{nothing, and_then, more, all}
use Rattle.gp_fmt.proofs.rules.put_edges.Goals as goal

pub each-init : goal.each-init
each-init c = nothing

pub each-preserved : goal.each-preserved
each-preserved c = more edge c.args.edges.now c.each-test.true c.e-item.is c.each.invariant (and_then c.sign.ensures (and_then (and_then (and_then c.name.ensures c.put_flag.ensures) (and_then c.sign-in-each.ensures (and_then c.name-in-each.ensures (and_then c.sign-in-each-2.ensures (and_then c.name-in-each-2.ensures (and_then c.sign-in-each-3.ensures c.put_label.ensures)))))) c.sign-in-each-4.ensures))

pub returns : goal.returns
returns c = all edge c.args.edges.now c.each-test.false c.each.invariant
