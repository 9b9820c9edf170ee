use Rattle.gp_unify.proofs.Candidates.{is_candidate, one_assignment}
use Rattle.gp_unify.proofs.laws.matches_tell_assignments.Goals as goal

pub returns : goal.returns
returns c = λ r g m w. record { candidate = is_candidate w; one_assignment = one_assignment w }
