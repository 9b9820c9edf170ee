use Rattle.gp_syntax.proofs.Simples.{simple_iff}
use Rattle.gp_syntax.proofs.laws.simple_labels_are_these.Goals as goal

pub returns-clause-names : goal.returns-clause-names
returns-clause-names c = λ t e. simple_iff t e

pub returns-clause-places : goal.returns-clause-places
returns-clause-places c = λ t e. simple_iff t e
