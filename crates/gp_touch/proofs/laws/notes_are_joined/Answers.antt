use Rattle.gp_touch.proofs.Ends.{adds_joined, differing_joined, ends_joined}
use Rattle.gp_touch.proofs.laws.notes_are_joined.Goals as goal

pub returns-clause-added : goal.returns-clause-added
returns-clause-added c = adds_joined

pub returns-clause-differing : goal.returns-clause-differing
returns-clause-differing c = differing_joined

pub returns-clause-ends : goal.returns-clause-ends
returns-clause-ends c = ends_joined
