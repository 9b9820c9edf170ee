use Rattle.gp_fmt.proofs.Again.{mean_the_same}
use Rattle.gp_fmt.proofs.laws.canonical_texts_mean_the_same.Goals as goal

pub returns : goal.returns
returns c = mean_the_same c.tokens_have_one_tree.ensures
