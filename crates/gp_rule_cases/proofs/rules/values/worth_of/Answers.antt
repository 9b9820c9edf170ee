use Rattle.gp_syntax.specs.Tree.{rule_of_tree}
use Rattle.gp_unify.specs.Matched.{OneFits}
use Rattle.gp_unify.proofs.Matches.{match_fits}
use Rattle.gp_match.proofs.Verdicts.{are_nodes}
use Rattle.gp_rule_cases.proofs.rules.values.worth_of.Goals as goal

pub worth_by-requires-clause-nodes : goal.worth_by-requires-clause-nodes
worth_by-requires-clause-nodes c =
    let r = c.args.parts.now in
    let g = c.args.graph.now.graph in
    let m = c.args.found.now in
    let es = c.edges.result.now in
    let p = c.in-Ok-Some.assignment in
    let one : OneFits (rule_of_tree r) g m p = rw c.in-Ok-Some.field-0-is at c.in-Ok-Some.ensures.fits in
    rw c.nodes.ensures
    (are_nodes r g m es c.edges.ensures.numbers c.edges.ensures.directions p (record { types = one.types; whole = one.whole; fit = one.fit; alone = λ a w. one.alone a (match_fits (rule_of_tree r) g m a w) }))
