use Rattle.std.proofs.Common.{◌<◌, length, sym, subst, arith}
use Rattle.std.specs.Prelude.{None, slice_set}
use Rattle.gp_graph.specs.inside.Roots.{HasRoots, KeepsNodes}
use Rattle.gp_graph.proofs.Links.{slot_here, slot_other}
use Rattle.gp_graph.proofs.RootSteps.{roots_off, roots_all, no_root, keeps_set}
use Rattle.gp_graph.proofs.roots.clear.Goals as goal

pub returns-clause-rings : goal.returns-clause-rings
returns-clause-rings c =
    let ns = c.dismiss-left.new.nodes in
    let l : c.args.n < length ns = omega (arith, c.dismiss-left.auto.nodes) in
    subst (HasRoots c.dismiss-left.result) (sym c.put-was.ensures.items)
    (roots_all c.dismiss-left.result (slice_set ns c.args.n None) c.args.n
    (roots_off c.dismiss-left.result ns (slice_set ns c.args.n None) c.args.n (λ k ne. slot_other ns c.args.n None k ne) c.dismiss-left.ensures.rings)
    (no_root (slice_set ns c.args.n None) c.args.n (slot_here ns c.args.n None l)))

pub returns-clause-keeps : goal.returns-clause-keeps
returns-clause-keeps c =
    let ns = c.dismiss-left.new.nodes in
    let l : c.args.n < length ns = omega (arith, c.dismiss-left.auto.nodes) in
    subst (KeepsNodes (slice_set c.args.nodes.now c.args.n None)) (sym c.put-was.ensures.items)
    (keeps_set c.args.nodes.now ns c.args.n None c.requires.within l c.dismiss-left.ensures.keeps)
