use Rattle.gp_fmt.specs.Canonical.{line}
use Rattle.gp_values.proofs.Labels.{on_err, begun_at}
use Rattle.gp_fmt.proofs.print.print_lines.Goals as goal

pub returns-in_err-print_line-clause-err : goal.returns-in_err-print_line-clause-err
returns-in_err-print_line-clause-err c =
    on_err c.from_residual.result (begun_at line c.args.declarations.now c.each.d-index c.d-item.result
    c.args.text.now.items c.each.text.items c.print_line.new.text.items
    c.each-test.true c.d-item.is c.each.invariant c.in_err-print_line.ensures.err)
