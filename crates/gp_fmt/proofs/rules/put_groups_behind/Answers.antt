use Rattle.gp_fmt.specs.inside.Links.{group_link}
use Rattle.gp_fmt.proofs.Puts.{nothing, and_then, more, all}
use Rattle.gp_fmt.proofs.rules.put_groups_behind.Goals as goal

pub each-init : goal.each-init
each-init c = nothing

pub each-preserved : goal.each-preserved
each-preserved c = more group_link c.args.groups.now c.each-test.true c.group-item.is c.each.invariant (and_then c.sign.ensures c.put_group.ensures)

pub returns : goal.returns
returns c = all group_link c.args.groups.now c.each-test.false c.each.invariant
