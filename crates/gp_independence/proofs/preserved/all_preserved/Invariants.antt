use Rattle.std.proofs.Common.{◌≡◌, true, slice_index}
use Rattle.gp_eval.specs.Answer.{setting}
use Rattle.gp_match.specs.Tests.{all_below, has_number, implies}
use Rattle.gp_independence.specs.inside.Tests.{is_preserved}
use Rattle.gp_independence.proofs.preserved.all_preserved.Given as goal

abbrev pub invariant-nodes : goal.invariant-nodes
invariant-nodes l = all_below (λ i. implies (has_number l.others (slice_index l.nodes i)) (is_preserved (setting l.assignment l.nodes l.graph.graph) l.right i)) l.place ≡ true
