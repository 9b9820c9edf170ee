use Rattle.gp_touch.proofs.Ends.{same_needs_no_note}
use Rattle.gp_touch.proofs.laws.same_need_no_note.Goals as goal

pub returns : goal.returns
returns c = same_needs_no_note
