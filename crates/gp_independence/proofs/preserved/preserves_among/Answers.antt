use Rattle.std.proofs.Common.{ap, ◌∙◌}
use Rattle.std.specs.Bool.{Decides}
use Rattle.std.proofs.lemmas.Bool.Decides.{Decides-at}
use Rattle.std.proofs.lemmas.Result.{IfOk-weaker}
use Rattle.gp_syntax.specs.Tree.{rule_of_tree}
use Rattle.gp_eval.specs.Answer.{setting}
use Rattle.gp_step.proofs.Afters.{numbered}
use Rattle.gp_step.proofs.Labels.{images_are_nodes}
use Rattle.gp_step.proofs.Makes.{assignment_is}
use Rattle.gp_independence.specs.inside.Shared.{PreservesAmong}
use Rattle.gp_independence.specs.inside.Tests.{all_preserved}
use Rattle.gp_independence.proofs.Deciding.{decides_among, right_within}
use Rattle.gp_independence.proofs.preserved.preserves_among.Goals as goal

pub all_preserved-requires-clause-within : goal.all_preserved-requires-clause-within
all_preserved-requires-clause-within c =
    let p = c.args.rule.now in
    let r = rule_of_tree p in
    let g = c.args.graph.now.graph in
    let m = c.args.found.now in
    let i = assignment_is r g m c.in_ok-assignment.field-0 c.in-Some.assignment c.requires c.in_ok-assignment.ensures.of_match c.in-Some.is in
    rw (c.as_slice-right.ensures, c.parts.ensures.value, c.nodes.ensures) (right_within p g m c.parts.ensures.well_formed (numbered g c.next_numbers-sound.ensures.sound) c.requires c.in-Some.assignment i)

pub all_preserved-requires-clause-whole : goal.all_preserved-requires-clause-whole
all_preserved-requires-clause-whole c =
    let i = assignment_is (rule_of_tree c.args.rule.now) c.args.graph.now.graph c.args.found.now c.in_ok-assignment.field-0 c.in-Some.assignment c.requires c.in_ok-assignment.ensures.of_match c.in-Some.is in
    i.whole

pub all_preserved-requires-clause-nodes : goal.all_preserved-requires-clause-nodes
all_preserved-requires-clause-nodes c =
    rw c.nodes.ensures (images_are_nodes (rule_of_tree c.args.rule.now) c.args.graph.now.graph c.args.found.now c.requires.0 c.requires.1.is_match)

pub returns : goal.returns
returns c =
    let p = c.args.rule.now in
    let r = rule_of_tree p in
    let g = c.args.graph.now.graph in
    let m = c.args.found.now in
    let b = c.in-Some.assignment in
    let others = c.args.others.now in
    let i = assignment_is r g m c.in_ok-assignment.field-0 b c.requires c.in_ok-assignment.ensures.of_match c.in-Some.is in
    let d = decides_among p g m c.parts.ensures.well_formed (numbered g c.next_numbers-sound.ensures.sound) c.requires b i others in
    IfOk-weaker c.all_preserved.result _ (λ x. Decides x (PreservesAmong r g m others))
    (λ x e. Decides-at x (all_preserved (setting b m.nodes g) p.right_nodes others)
    (e ∙ ap (λ ns. all_preserved (setting b ns g) c.as_slice-right.result.now others) c.nodes.ensures
    ∙ ap (λ qs. all_preserved (setting b m.nodes g) qs others) c.as_slice-right.ensures
    ∙ ap (λ z. all_preserved (setting b m.nodes g) z.right_nodes others) c.parts.ensures.value) d)
    c.all_preserved.ensures
