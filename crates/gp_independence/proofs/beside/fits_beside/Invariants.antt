use Rattle.std.proofs.Common.{map}
use Rattle.gp_syntax.specs.Tree.{rule_of_tree}
use Rattle.gp_independence.proofs.Others.{BesideFirst}
use Rattle.gp_independence.proofs.beside.fits_beside.Given as goal

abbrev pub invariant-loop-member : goal.invariant-loop-member
invariant-loop-member l = BesideFirst (map rule_of_tree l.rules.rules) l.graph.graph l.held l.found l.member-index
