use Rattle.std.proofs.Common.{◌≡◌, drop}
use Rattle.gp_independence.specs.inside.Tests.{right_of}
use Rattle.gp_independence.proofs.preserved.right_of.Given as goal

abbrev pub invariant-right : goal.invariant-right
invariant-right l = right_of (drop l.node-index l.right) l.place ≡ right_of l.right l.place
