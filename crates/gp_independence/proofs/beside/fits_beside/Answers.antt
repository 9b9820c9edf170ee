use Rattle.std.proofs.Common.{Bool, true, map, sym, subst}
use Rattle.gp_syntax.specs.Rule.{Found}
use Rattle.gp_syntax.specs.Tree.{rule_of_tree}
use Rattle.gp_independence.specs.Laws.{IsApplying}
use Rattle.gp_independence.specs.inside.Gathered.{IsBeside}
use Rattle.gp_independence.proofs.Others.{beside_more, fits_all}
use Rattle.gp_independence.proofs.beside.fits_beside.Goals as goal

pub is_beside-requires-clause-member : goal.is_beside-requires-clause-member
is_beside-requires-clause-member c =
    subst (IsApplying (map rule_of_tree c.args.rules.now.rules) c.args.graph.now.graph) (sym c.member-item.is) (c.requires.held c.loop-member.member-index c.member-item.result c.loop-member-test.true)

pub loop-member-preserved : goal.loop-member-preserved
loop-member-preserved c =
    let rules = map rule_of_tree c.args.rules.now.rules in
    let g = c.args.graph.now.graph in
    let now : IsBeside true rules g c.member-item.result c.args.found.now = subst (λ (b : Bool). IsBeside b rules g c.member-item.result c.args.found.now) c.in-Ok-true.field-0-test c.in-Ok-true.ensures in
    beside_more rules g c.args.held.now c.args.found.now c.loop-member.member-index c.member-item.result c.loop-member-test.true c.loop-member.invariant (subst (λ (h : Found). IsBeside true rules g h c.args.found.now) c.member-item.is now)

pub returns : goal.returns
returns c = fits_all (map rule_of_tree c.args.rules.now.rules) c.args.graph.now.graph c.args.held.now c.args.found.now c.loop-member.member-index c.loop-member-test.false c.loop-member.invariant
