use Rattle.std.proofs.Common.{◌≡◌, map, take}
use Rattle.gp_reader.proofs.Trees.{calls_by}
use Rattle.gp_reader.proofs.calls.callees_of.Given as goal

abbrev pub invariant-loop-body : goal.invariant-loop-body
invariant-loop-body l = l.callees.items ≡ map calls_by (take l.body-index l.bodies)
