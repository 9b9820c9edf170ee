use Rattle.std.proofs.Common.{ap, sym, take_all}
use Rattle.gp_hostfile.specs.inside.Lines.{line_keys, key_lines}
use Rattle.gp_hostfile.proofs.Lines.{no_line, line_more}
use Rattle.gp_hostfile.proofs.Puts.{nothing, and_then, told}
use Rattle.gp_hostfile.proofs.text.put_edges.Goals as goal

pub loop-i-init : goal.loop-i-init
loop-i-init c = told (no_line c.args.lines.now) nothing

pub loop-i-preserved : goal.loop-i-preserved
loop-i-preserved c = told (line_more c.args.lines.now c.loop-i.i c.index-lines-i.result c.loop-i-test.true c.index-lines-i.is) (and_then c.loop-i.invariant c.put_edge.ensures)

pub returns : goal.returns
returns c = told (ap (λ ls. key_lines 0 (line_keys ls)) (sym (take_all c.loop-i.i c.args.lines.now c.loop-i-test.false))) c.loop-i.invariant
