use Rattle.std.proofs.Common.{◌≡◌, take}
use Rattle.gp_unify.proofs.pieces.list_of.Given as goal

abbrev pub invariant-loop-atom : goal.invariant-loop-atom
invariant-loop-atom l = l.list ≡ take l.atom-index l.atoms
