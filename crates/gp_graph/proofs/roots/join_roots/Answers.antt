use Rattle.std.proofs.Common.{◌≡◌, ap, sym, subst, ◌∙◌}
use Rattle.gp_rings.specs.Chains.{Joins}
use Rattle.gp_graph.specs.inside.Rings.{changed_at}
use Rattle.gp_graph.specs.inside.Roots.{with_prev_root, next_root, prev_root, KeepsNodes}
use Rattle.gp_graph.proofs.Links.{slot_within}
use Rattle.gp_graph.proofs.RootSteps.{roots_joined, root_joins, root_joined_keeps}
use Rattle.gp_graph.proofs.roots.join_roots.Goals as goal

pub returns-clause-joins : goal.returns-clause-joins
returns-clause-joins c =
    let e : c.set_prev.new.nodes ≡ roots_joined c.args.nodes.now c.args.from c.args.to = c.set_prev.ensures ∙ ap (λ l. changed_at (with_prev_root c.args.from) l c.args.to) c.set_next.ensures in
    subst (λ l. Joins (next_root c.args.nodes.now) (prev_root c.args.nodes.now) (next_root l) (prev_root l) c.args.from c.args.to) (sym e)
    (root_joins c.args.nodes.now c.args.from c.args.to c.requires.from c.requires.to)

pub returns-clause-keeps : goal.returns-clause-keeps
returns-clause-keeps c =
    let e : c.set_prev.new.nodes ≡ roots_joined c.args.nodes.now c.args.from c.args.to = c.set_prev.ensures ∙ ap (λ l. changed_at (with_prev_root c.args.from) l c.args.to) c.set_next.ensures in
    subst (KeepsNodes c.args.nodes.now) (sym e) (root_joined_keeps c.args.nodes.now c.args.from c.args.to)

pub set_next-requires : goal.set_next-requires
set_next-requires c = slot_within c.args.nodes.now c.args.from c.requires.from

pub set_prev-requires : goal.set_prev-requires
set_prev-requires c = rw c.set_next.auto.nodes (slot_within c.args.nodes.now c.args.to c.requires.to)
