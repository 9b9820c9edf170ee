use Rattle.gp_fmt.proofs.Again.{stay}
use Rattle.gp_fmt.proofs.laws.canonical_texts_stay.Goals as goal

pub returns : goal.returns
returns c = stay c.tokens_have_one_tree.ensures
