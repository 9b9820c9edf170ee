use Rattle.std.proofs.Common.{ap, sym}
use Rattle.gp_cli.specs.Texts.{formatted}
use Rattle.gp_cli.proofs.fmt.canonical.Goals as goal

pub returns : goal.returns
returns c = ap formatted (sym (rw c.new-text.ensures.items at c.in_ok-print_program.ensures.ok))
