use Rattle.gp_unify.proofs.Unifies.{sound, complete}
use Rattle.gp_unify.proofs.laws.labels_tell_variables.Goals as goal

pub returns : goal.returns
returns c = record { sound = sound; complete = complete }
