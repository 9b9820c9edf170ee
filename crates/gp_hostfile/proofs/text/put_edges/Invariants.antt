use Rattle.std.proofs.Common.{take}
use Rattle.gp_hostfile.specs.inside.Lines.{line_keys, key_lines}
use Rattle.gp_hostfile.specs.inside.Puts.{Puts}
use Rattle.gp_hostfile.proofs.text.put_edges.Given as goal

abbrev pub invariant-loop-i : goal.invariant-loop-i
invariant-loop-i l = Puts l.initial.sheet l.sheet (key_lines 0 (line_keys (take l.i l.lines)))
