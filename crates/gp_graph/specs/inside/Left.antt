-- A walk, as the numbers that it has left.
use Rattle.std.specs.Prelude.{ℕ, List}
use Rattle.gp_graph.specs.declared.walk.Walk.TheInside.{Inside}
use Rattle.gp_graph.specs.inside.Sought.{given_of}

abbrev pub left_of : Inside → List ℕ
left_of a = given_of a.sought a.left a.at
