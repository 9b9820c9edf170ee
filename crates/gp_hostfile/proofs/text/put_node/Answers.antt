use Rattle.std.proofs.Common.{◌≡◌, ◌++◌, refl}
use Rattle.std.specs.Prelude.{codes}
use Rattle.std.specs.Fmt.{decimal}
use Rattle.gp_values.specs.Labels.{label_text}
use Rattle.gp_hostfile.specs.GraphText.{node_line}
use Rattle.gp_hostfile.proofs.Puts.{and_then, told}
use Rattle.gp_hostfile.proofs.text.put_node.Goals as goal

pub returns : goal.returns
returns c =
    let e : node_line (c.args.n, record { label = c.args.label.now; mark = c.args.mark; root = c.args.root })
    ≡ codes "  (n" ++ decimal c.args.n ++ c.root_text.result.now ++ codes ", " ++ label_text c.args.label.now ++ c.node_mark_text.result.now ++ codes ")\n" = rw (c.root_text.ensures, c.node_mark_text.ensures) refl in
    told e (and_then (and_then (and_then (and_then (and_then (and_then c.put.ensures c.number.ensures) c.put-2.ensures) c.put-3.ensures) c.label.ensures) c.put-4.ensures) c.put-5.ensures)
