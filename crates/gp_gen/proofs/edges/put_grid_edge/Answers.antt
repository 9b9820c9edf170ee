use Rattle.std.proofs.Common.{ap, sym}
use Rattle.gp_gen.specs.Texts.{edge_line}
use Rattle.gp_gen.proofs.Drawing.{draws_one}
use Rattle.gp_gen.proofs.Grids.{turned, straight}
use Rattle.gp_gen.proofs.Puts.{told}
use Rattle.gp_gen.proofs.edges.put_grid_edge.Goals as goal

pub returns-then-next_word-eq1 : goal.returns-then-next_word-eq1
returns-then-next_word-eq1 c =
    draws_one (c.args.small, c.args.great) c.next_word.result c.next_word.ensures
    (told (ap (edge_line c.args.i) (sym (turned c.args.small c.args.great c.next_word.result c.if-next_word-eq1.true))) c.put_edge.ensures)

pub returns-else-next_word-eq1 : goal.returns-else-next_word-eq1
returns-else-next_word-eq1 c =
    draws_one (c.args.small, c.args.great) c.next_word.result c.next_word.ensures
    (told (ap (edge_line c.args.i) (sym (straight c.args.small c.args.great c.next_word.result c.if-next_word-eq1.false))) c.put_edge-else-next_word-eq1.ensures)
