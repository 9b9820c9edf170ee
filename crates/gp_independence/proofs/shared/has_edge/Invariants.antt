use Rattle.std.proofs.Common.{◌≡◌, drop}
use Rattle.gp_match.specs.Stands.{numbers_of}
use Rattle.gp_match.specs.Tests.{has_number}
use Rattle.gp_independence.proofs.shared.has_edge.Given as goal

abbrev pub invariant-images : goal.invariant-images
invariant-images l = has_number (numbers_of (drop l.image-index l.images)) l.number ≡ has_number (numbers_of l.images) l.number
