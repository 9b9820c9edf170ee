use Rattle.std.proofs.Common.{sym, subst}
use Rattle.std.specs.Option.{option_map}
use Rattle.gp_graph.specs.inside.Slots.{slot_in}
use Rattle.gp_graph.specs.inside.Rings.{changed_at}
use Rattle.gp_graph.specs.inside.Roots.{HasRootsBut, KeepsNodes, rewritten}
use Rattle.gp_graph.proofs.Links.{slot_other}
use Rattle.gp_graph.proofs.RootSteps.{roots_off, keeps_rewritten, keeps_then}
use Rattle.gp_graph.proofs.roots.relabel.Goals as goal

pub admit-requires : goal.admit-requires
admit-requires c =
    let ns = c.dismiss-others.new.nodes in
    let f = rewritten c.args.label c.args.mark c.args.root in
    subst (λ xs. HasRootsBut c.dismiss-others.result xs c.args.n) (sym c.rewrite-was.ensures.items)
    (roots_off c.dismiss-others.result ns (changed_at f ns c.args.n) c.args.n (λ k ne. slot_other ns c.args.n (option_map f (slot_in ns c.args.n)) k ne) c.dismiss-others.ensures.rings)

pub returns-clause-keeps : goal.returns-clause-keeps
returns-clause-keeps c =
    let old = changed_at (rewritten c.args.label c.args.mark c.args.root) c.args.nodes.now c.args.n in
    keeps_then old c.rewrite-was.new.nodes c.admit.new.nodes
    (subst (KeepsNodes old) (sym c.rewrite-was.ensures.items)
    (keeps_rewritten c.args.label c.args.mark c.args.root c.args.nodes.now c.dismiss-others.new.nodes c.args.n c.dismiss-others.ensures.keeps))
    c.admit.ensures.keeps
