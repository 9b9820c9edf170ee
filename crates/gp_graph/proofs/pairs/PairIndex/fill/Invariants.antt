use Rattle.std.proofs.Common.{◌≤◌, take, length}
use Rattle.gp_graph.specs.inside.Pairs.{IsIndex}
use Rattle.gp_graph.proofs.pairs.PairIndex.fill.Given as goal

-- the edges so far are indexed
abbrev pub invariant-loop-e : goal.invariant-loop-e
invariant-loop-e l = record {
  room : length l.edges ≤ length l.self.pairs.items;
  so_far : IsIndex l.self (take l.e l.edges);
}
