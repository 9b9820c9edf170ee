use Rattle.gp_values.specs.EqualityLaws.{same_list-Decides}
use Rattle.gp_values.proofs.laws.tests_equality.Goals as goal

pub returns : goal.returns
returns c = same_list-Decides
