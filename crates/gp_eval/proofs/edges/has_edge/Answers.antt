use Rattle.gp_eval.proofs.Between.{first_there, none_there}
use Rattle.gp_eval.proofs.edges.has_edge.Goals as goal

pub returns-in-Some : goal.returns-in-Some
returns-in-Some c = first_there c.args.graph.now.graph c.args.source c.args.target c.edges_between.result _ _ c.edges_between.ensures.walks c.in-Some.ensures.steps

pub returns-in-None : goal.returns-in-None
returns-in-None c = none_there c.args.graph.now.graph c.args.source c.args.target c.edges_between.result c.edges_between.ensures.walks c.in-None.ensures.steps.0
