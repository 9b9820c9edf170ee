use Rattle.gp_tokens.proofs.Complete.{all_again}
use Rattle.gp_tokens.proofs.Sound.{all_sound}
use Rattle.gp_tokens.proofs.laws.grammars_are_read.Goals as goal

pub returns-clause-sound : goal.returns-clause-sound
returns-clause-sound g c = all_sound g.F.Form.grammar

pub returns-clause-again : goal.returns-clause-again
returns-clause-again g c = all_again g.F.Form.grammar
