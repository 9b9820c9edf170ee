use Rattle.std.proofs.Common.{◌≡◌, true, slice_index}
use Rattle.gp_match.specs.Tests.{all_below}
use Rattle.std.specs.Prelude.{◌||◌}
use Rattle.gp_match.specs.Stands.{is_kept_by, counts, numbers_of}
use Rattle.gp_match.proofs.dangling.none_dangles.Given as goal

abbrev pub invariant-nodes : goal.invariant-nodes
invariant-nodes l = all_below (λ i. is_kept_by l.right i || counts l.graph.graph (slice_index l.nodes i) (numbers_of l.images)) l.i ≡ true
