use Rattle.std.proofs.Common.{◌+◌, ◌*◌, ◌-◌, length, Contains}
use Rattle.gp_certify.specs.inside.Ways.{above}
use Rattle.gp_certify.specs.inside.Grows.{Grows, Has, OfOne}
use Rattle.gp_certify.specs.inside.Found.{GoesOn, Leaves}
use Rattle.gp_certify.specs.inside.Kept.{FirstsSoFar, TurnsSoFar}
use Rattle.gp_certify.proofs.ends.+ends.Given as goal

abbrev pub decreases-ends_of : goal.decreases-ends_of
decreases-ends_of g l = 4 * l.node + 3

abbrev pub decreases-fresh_ends : goal.decreases-fresh_ends
decreases-fresh_ends g l = 4 * l.node + 2

abbrev pub decreases-first_ends : goal.decreases-first_ends
decreases-first_ends g l = 4 * l.node + 1

abbrev pub decreases-loop_ends : goal.decreases-loop_ends
decreases-loop_ends g l = 4 * l.node + 1

abbrev pub decreases-way_ends : goal.decreases-way_ends
decreases-way_ends g l = 4 * above l.way

abbrev pub decreases-turn_ends : goal.decreases-turn_ends
decreases-turn_ends g l = 4 * l.body + 4

abbrev pub invariant-first_ends-firsts : goal.invariant-first_ends-firsts
invariant-first_ends-firsts g l = FirstsSoFar (g.T.Tape.view l.fn.tape) (g.T.Tape.view l.tape) l.code l.memory.found l.shape l.place l.end-items l.end-index l.initial.found.items l.found.items

abbrev pub invariant-turn_ends-ends : goal.invariant-turn_ends-ends
invariant-turn_ends-ends g l = Grows (Has l.initial.reached.starts) (Has l.reached.starts) (OfOne GoesOn l.end-items l.end-index) × Grows (Contains l.initial.reached.ends.items) (Contains l.reached.ends.items) (OfOne (Leaves (g.T.Tape.view l.tape) (l.start + 1)) l.end-items l.end-index)

abbrev pub invariant-loop_ends-turns : goal.invariant-loop_ends-turns
invariant-loop_ends-turns g l = TurnsSoFar (g.T.Tape.view l.fn.tape) (g.T.Tape.view l.tape) l.code l.memory.found l.node l.place l.floor l.reached

abbrev pub decreases-loop_ends-turns : goal.decreases-loop_ends-turns
decreases-loop_ends-turns g l = length (g.T.Tape.view l.tape).trace + 1 - l.floor
