use Rattle.std.proofs.Common.{refl}
use Rattle.gp_syntax.proofs.laws.share_examples.Goals as goal

pub returns : goal.returns
returns c = record { first_node = refl; first_root = refl; no_node = refl }
