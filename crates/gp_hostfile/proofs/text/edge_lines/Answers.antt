use Rattle.gp_hostfile.specs.inside.Lines.{line_keys}
use Rattle.gp_hostfile.proofs.Lines.{edge_turn}
use Rattle.gp_hostfile.proofs.text.edge_lines.Goals as goal

pub loop-e-preserved : goal.loop-e-preserved
loop-e-preserved c = edge_turn c.args.graph.now.graph c.loop-e.e (line_keys c.loop-e.lines.items) (line_keys c.add_line_at.new.lines.items) c.loop-e.invariant c.in_ok-add_line_at.ensures
