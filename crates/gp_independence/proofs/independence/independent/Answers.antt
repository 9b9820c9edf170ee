use Rattle.gp_independence.proofs.Deciding.{shares_nothing, shares_edge, is_no, is_yes}
use Rattle.gp_independence.proofs.independence.independent.Goals as goal

pub returns-in-Nothing : goal.returns-in-Nothing
returns-in-Nothing c = is_yes (shares_nothing c.requires.first c.requires.second c.in-Nothing.ensures.0 c.in-Nothing.ensures.1)

pub returns-in-Edges : goal.returns-in-Edges
returns-in-Edges c = is_no (λ i. shares_edge i c.in-Edges.ensures)
