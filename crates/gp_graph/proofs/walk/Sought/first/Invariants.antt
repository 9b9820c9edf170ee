use Rattle.std.proofs.Common.{◌≡◌, ◌-◌}
use Rattle.gp_graph.specs.inside.Sought.{given_of}
use Rattle.gp_graph.proofs.walk.Sought.first.Given as goal

-- none so far is given
abbrev pub invariant-loop-gone : goal.invariant-loop-gone
invariant-loop-gone l = given_of l.self l.count l.from ≡ given_of l.self (l.count - l.gone) l.at
