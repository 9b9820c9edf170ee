use Rattle.std.proofs.Common.{◌≡◌, drop}
use Rattle.gp_independence.specs.inside.Shared.{any_shared}
use Rattle.gp_independence.proofs.shared.share_node.Given as goal

abbrev pub invariant-numbers : goal.invariant-numbers
invariant-numbers l = any_shared (drop l.number-index l.first) l.second ≡ any_shared l.first l.second
