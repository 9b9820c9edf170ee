use Rattle.gp_tokens.proofs.Converses.{cut_or_fault, one_cut, one_fault, not_both}
use Rattle.gp_tokens.proofs.laws.texts_have_one_cut_or_one_fault.Goals as goal

pub returns : goal.returns
returns c = record { some = cut_or_fault; one_cut = one_cut; one_fault = one_fault; not_both = not_both }
