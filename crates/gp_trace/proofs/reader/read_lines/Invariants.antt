use Rattle.std.proofs.Common.{length, map}
use Rattle.gp_syntax.specs.Tree.{item_of}
use Rattle.gp_trace.proofs.LineFacts.{HasRead}
use Rattle.gp_trace.proofs.reader.read_lines.Given as goal

abbrev pub invariant-loop-end : goal.invariant-loop-end
invariant-loop-end l = HasRead l.text (map item_of l.items.items) l.rest

abbrev pub decreases-loop-end : goal.decreases-loop-end
decreases-loop-end l = length l.rest
