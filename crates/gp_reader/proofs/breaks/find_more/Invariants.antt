use Rattle.std.proofs.Common.{map}
use Rattle.gp_syntax.specs.Tree.{command_of}
use Rattle.gp_reader.proofs.Round.{Round}
use Rattle.gp_reader.proofs.breaks.find_more.Given as goal

abbrev pub invariant-loop-k : goal.invariant-loop-k
invariant-loop-k l = Round (map command_of l.procedures) l.fn.known.items l.known.items l.more l.k
