use Rattle.std.proofs.Common.{◌≡◌, drop}
use Rattle.gp_hostfile.specs.Host.{first_found}
use Rattle.gp_hostfile.specs.inside.Stages.{atom_fault}
use Rattle.gp_hostfile.proofs.check.check_label.Given as goal

abbrev pub invariant-loop-atom : goal.invariant-loop-atom
invariant-loop-atom l = first_found atom_fault (drop l.atom-index l.label) ≡ first_found atom_fault l.label
