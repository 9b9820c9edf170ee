use Rattle.std.proofs.Common.{◌≡◌, ◌++◌, drop}
use Rattle.std.specs.Prelude.{option_map}
use Rattle.gp_hostfile.specs.Host.{atoms_of}
use Rattle.gp_hostfile.proofs.build.label_list.Given as goal

abbrev pub invariant-loop-atom : goal.invariant-loop-atom
invariant-loop-atom l = option_map (λ xs. l.list ++ xs) (atoms_of (drop l.atom-index l.label)) ≡ atoms_of l.label
