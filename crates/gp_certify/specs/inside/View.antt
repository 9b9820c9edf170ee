-- What a tape tells of itself.
use Rattle.std.specs.Prelude.{ℕ, ◌<◌, ◌^◌, List, length}
use Rattle.gp_values.specs.Graph.{Graph}
use Rattle.gp_syntax.specs.Run.{Program, Item}
use Rattle.gp_certify.specs.Places.{AreGraphsOf}

-- a program, a trace, and the graph at each place of it
pub record View : Type 0 where
  pub program : Program
  pub trace : List Item
  pub graphs : ℕ → Graph

-- the items between two places lead nowhere but to the graph of the second, and places are numbers of the machine
pub record IsTape (v : View) : Type 0 where
  pub graphs : AreGraphsOf v.program.rules v.trace v.graphs
  pub short : length v.trace < 2 ^ 63
