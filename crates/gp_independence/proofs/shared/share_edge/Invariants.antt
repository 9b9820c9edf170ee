use Rattle.std.proofs.Common.{◌≡◌, drop}
use Rattle.gp_match.specs.Stands.{numbers_of}
use Rattle.gp_independence.specs.inside.Shared.{any_shared}
use Rattle.gp_independence.proofs.shared.share_edge.Given as goal

abbrev pub invariant-images : goal.invariant-images
invariant-images l = any_shared (numbers_of (drop l.image-index l.first)) (numbers_of l.second) ≡ any_shared (numbers_of l.first) (numbers_of l.second)
