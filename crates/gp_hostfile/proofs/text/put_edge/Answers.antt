use Rattle.std.proofs.Common.{◌≡◌, ◌++◌, refl}
use Rattle.std.specs.Prelude.{codes}
use Rattle.std.specs.Fmt.{decimal}
use Rattle.gp_hostfile.specs.inside.Lines.{line_key, key_line}
use Rattle.gp_hostfile.proofs.Puts.{and_then, told}
use Rattle.gp_hostfile.proofs.text.put_edge.Goals as goal

pub returns : goal.returns
returns c =
    let l = c.args.line.now in
    let e : key_line c.args.i (line_key l)
    ≡ codes "  (e" ++ decimal c.args.i ++ codes ", n" ++ decimal l.source ++ codes ", n" ++ decimal l.target ++ codes ", " ++ c.as_bytes.result.now ++ c.edge_mark_text.result.now ++ codes ")\n" = rw (c.as_bytes.ensures, c.edge_mark_text.ensures) refl in
    let ends = and_then (and_then (and_then (and_then (and_then c.put.ensures c.number.ensures) c.put-2.ensures) c.number-2.ensures) c.put-3.ensures) c.number-3.ensures in
    told e (and_then (and_then (and_then (and_then ends c.put-4.ensures) c.put-5.ensures) c.put-6.ensures) c.put-7.ensures)
