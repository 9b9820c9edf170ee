use Rattle.std.proofs.Common.{refl, ap, ◌∙◌, arith}
use Rattle.std.proofs.lemmas.Grind.{common_steps}
use Rattle.gp_values.specs.Graph.{Graph}
use Rattle.gp_syntax.specs.Assigned.{assigned_of}
use Rattle.gp_syntax.specs.Tree.{rule_of_tree}
use Rattle.gp_step.specs.inside.Made.{changes_held}
use Rattle.gp_step.specs.inside.Changes.{made_by}
use Rattle.gp_step.proofs.Afters.{numbered}
use Rattle.gp_step.proofs.Makes.{makes_step, keeps_held}
use Rattle.gp_step.proofs.step.apply_by.Goals as goal

pub make-requires-clause-may : goal.make-requires-clause-may
make-requires-clause-may c =
    let g = c.args.graph.now.graph in
    let m = makes_step (rule_of_tree c.args.parts.now) g c.args.found.now (assigned_of c.args.assignment.now) (numbered g c.next_numbers-sound.ensures.sound) c.requires.applies.is_match c.requires.well_formed (changes_held g c.in_ok-changes.changes) c.in_ok-changes.ensures in
    rw c.in_ok-reserve.ensures.graph m.may

pub make-requires-clause-keeps : goal.make-requires-clause-keeps
make-requires-clause-keeps c =
    let g = c.args.graph.now.graph in
    let p = changes_held g c.in_ok-changes.changes in
    rw c.in_ok-reserve.ensures.graph
    (keeps_held (rule_of_tree c.args.parts.now) g c.args.found.now (assigned_of c.args.assignment.now) (numbered g c.next_numbers-sound.ensures.sound) c.requires.applies.is_match c.requires.well_formed p c.in_ok-changes.ensures c.in_ok-changes.changes.joined.kept.items refl)

pub returns-clause-ok : goal.returns-clause-ok
returns-clause-ok c =
    let g = c.args.graph.now.graph in
    let m = makes_step (rule_of_tree c.args.parts.now) g c.args.found.now (assigned_of c.args.assignment.now) (numbered g c.next_numbers-sound.ensures.sound) c.requires.applies.is_match c.requires.well_formed (changes_held g c.in_ok-changes.changes) c.in_ok-changes.ensures in
    c.make.ensures.graph ∙ ap (λ (h : Graph). made_by (changes_held h c.in_ok-changes.changes) h) c.in_ok-reserve.ensures.graph ∙ m.same

pub make-requires-clause-none : goal.make-requires-clause-none
make-requires-clause-none c = grind (arith, common_steps)

pub make-requires-clause-spare : goal.make-requires-clause-spare
make-requires-clause-spare c = grind (arith, common_steps)

pub make-requires-clause-node_room : goal.make-requires-clause-node_room
make-requires-clause-node_room c = grind (arith, common_steps)

pub make-requires-clause-edge_room : goal.make-requires-clause-edge_room
make-requires-clause-edge_room c = grind (arith, common_steps)
