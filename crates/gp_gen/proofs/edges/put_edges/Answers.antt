use Rattle.std.proofs.Common.{ap}
use Rattle.gp_gen.specs.Host.{host_edges}
use Rattle.gp_gen.specs.Texts.{edge_lines}
use Rattle.gp_gen.proofs.Drawing.{all_put}
use Rattle.gp_gen.proofs.Puts.{told}
use Rattle.gp_gen.proofs.edges.put_edges.Goals as goal

pub returns-in-Closure : goal.returns-in-Closure
returns-in-Closure c =
    told (ap (λ k. edge_lines 0 (host_edges k c.args.size c.args.seed)) c.in-Closure.is) (all_put c.args.seed c.seed_from_u64-generator.ensures c.put_ring.ensures)

pub returns-in-Colour : goal.returns-in-Colour
returns-in-Colour c =
    told (ap (λ k. edge_lines 0 (host_edges k c.args.size c.args.seed)) c.in-Colour.is) (all_put c.args.seed c.seed_from_u64-generator.ensures c.put_grid.ensures)
