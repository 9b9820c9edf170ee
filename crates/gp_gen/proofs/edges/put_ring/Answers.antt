use Rattle.std.proofs.Common.{◌+◌, ◌%◌, ap, sym}
use Rattle.std.specs.Prelude.{Some}
use Rattle.gp_gen.specs.Host.{ring_edge}
use Rattle.gp_gen.specs.Texts.{edge_line}
use Rattle.gp_gen.proofs.Drawing.{draws_none, draws_one, draws_both}
use Rattle.gp_gen.proofs.Grids.{number_more, count_below}
use Rattle.gp_gen.proofs.Puts.{told}
use Rattle.gp_gen.proofs.edges.put_ring.Goals as goal

pub loop-i-init : goal.loop-i-init
loop-i-init c = draws_none

pub loop-i-preserved : goal.loop-i-preserved
loop-i-preserved c =
    let i = c.loop-i.i in
    draws_both (number_more i) (count_below i) c.loop-i.invariant
    (draws_one {edge = ring_edge c.args.size} i c.next_word-label.result c.next_word-label.ensures
    (told (ap (λ k. edge_line i (record { source = i; target = (i + 1) % c.args.size; label = Some k })) (sym c.from.ensures)) c.put_edge.ensures))
