use Rattle.std.proofs.Common.{subst}
use Rattle.gp_syntax.specs.Tree.{rule_of_tree}
use Rattle.gp_unify.specs.Matched.{MayFit}
use Rattle.gp_match.proofs.Told.{is_told}
use Rattle.gp_match.proofs.check.check_parts.Goals as goal

pub check_told-requires-clause-told : goal.check_told-requires-clause-told
check_told-requires-clause-told c =
    let r = rule_of_tree c.args.parts.now in
    is_told r c.args.graph.now.graph c.args.found.now c.in-Some.assignment (subst (λ o. MayFit o r c.args.graph.now.graph c.args.found.now) c.in-Some.is c.in-Ok.ensures.fits)
