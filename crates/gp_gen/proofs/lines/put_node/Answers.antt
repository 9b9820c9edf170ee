use Rattle.std.proofs.Common.{◌++◌, sym, ap}
use Rattle.std.specs.Prelude.{codes}
use Rattle.std.specs.Fmt.{decimal}
use Rattle.gp_gen.proofs.Puts.{and_then, told}
use Rattle.gp_gen.proofs.lines.put_node.Goals as goal

pub returns : goal.returns
returns c =
    told (ap (λ mark. codes "  (" ++ decimal c.args.number ++ codes ", " ++ decimal c.args.label ++ mark ++ codes ")\n") (sym c.mark_text.ensures))
    (and_then (and_then (and_then (and_then (and_then c.put.ensures c.number.ensures) c.put-2.ensures) c.number-2.ensures) c.put-3.ensures) c.put-4.ensures)
