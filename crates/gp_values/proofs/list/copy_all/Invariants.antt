use Rattle.std.proofs.Common.{◌≡◌, take}
use Rattle.gp_values.proofs.list.copy_all.Given as goal

abbrev pub invariant-loop-atom : goal.invariant-loop-atom
invariant-loop-atom l = l.copies.items ≡ take l.atom-index l.atoms
