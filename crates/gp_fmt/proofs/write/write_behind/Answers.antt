use Rattle.gp_fmt.specs.Spaces.{spaced_behind}
use Rattle.gp_values.proofs.Labels.{on_err}
use Rattle.gp_fmt.proofs.Written.{one_more_done, begun_here, none_done, all_done}
use Rattle.gp_fmt.proofs.write.write_behind.Goals as goal

pub each-init : goal.each-init
each-init c = none_done (spaced_behind c.args.first.now c.args.others.now) c.args.out.now.items

pub each-preserved : goal.each-preserved
each-preserved c =
    one_more_done _ c.next-item.result c.args.others.now c.each.next-index c.each-test.true c.next-item.is
    (spaced_behind c.args.first.now c.args.others.now) c.args.out.now.items c.each.out.items c.write_next.new.out.items c.each.invariant c.in_ok-write_next.ensures.ok

pub returns-in_err-write_next-clause-err : goal.returns-in_err-write_next-clause-err
returns-in_err-write_next-clause-err c =
    on_err c.from_residual.result (begun_here _ c.next-item.result c.args.others.now c.each.next-index c.each-test.true c.next-item.is
    (spaced_behind c.args.first.now c.args.others.now) c.args.out.now.items c.each.out.items c.write_next.new.out.items c.each.invariant c.in_err-write_next.ensures.err)

pub returns-clause-ok : goal.returns-clause-ok
returns-clause-ok c =
    all_done _ c.args.others.now c.each.next-index (spaced_behind c.args.first.now c.args.others.now) c.args.out.now.items c.each.out.items c.each-test.false c.each.invariant
