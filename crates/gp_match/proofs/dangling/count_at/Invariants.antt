use Rattle.std.proofs.Common.{◌≡◌, ◌≤◌, take}
use Rattle.gp_match.specs.Stands.{count_at, numbers_of}
use Rattle.gp_match.proofs.dangling.count_at.Given as goal

abbrev pub invariant-images : goal.invariant-images
invariant-images l = record { so_far : l.count ≡ count_at l.graph.graph l.ending l.n (numbers_of (take l.image-index l.images)); small : l.count ≤ l.image-index }
