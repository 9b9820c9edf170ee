use Rattle.std.specs.Prelude.{Some, slice_set}
use Rattle.gp_graph.proofs.Links.{slot_other}
use Rattle.gp_graph.proofs.RootSteps.{roots_off, roots_but, no_root}
use Rattle.gp_graph.proofs.roots.fill.Goals as goal

pub admit-requires : goal.admit-requires
admit-requires c =
    let ns = c.args.nodes.now in
    roots_off c.args.roots ns (slice_set ns c.args.n (Some c.args.slot)) c.args.n (λ k ne. slot_other ns c.args.n (Some c.args.slot) k ne)
    (roots_but c.args.roots ns c.args.n c.requires.rings (no_root ns c.args.n c.requires.vacant))
