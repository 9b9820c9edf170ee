use Rattle.std.proofs.Common.{take}
use Rattle.gp_reader.specs.inside.Visits.{Visited}
use Rattle.gp_reader.proofs.recursion.visit.Given as goal

abbrev pub invariant-loop-next : goal.invariant-loop-next
invariant-loop-next l = Visited (take l.next-index l.found) l.fn.seen.items l.seen.items l.fn.left.items l.left.items
