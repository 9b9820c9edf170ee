use Rattle.std.proofs.Common.{◌≡◌, drop, take}
use Rattle.std.specs.List.{AllZip}
use Rattle.gp_hostfile.specs.Host.{first_found}
use Rattle.gp_hostfile.specs.inside.Stages.{HasEnds, ends_fault}
use Rattle.gp_hostfile.proofs.check.check_ends.Given as goal

abbrev pub invariant-loop-edge : goal.invariant-loop-edge
invariant-loop-edge l = (first_found (ends_fault l.nodes) (drop l.edge-index l.edges) ≡ first_found (ends_fault l.nodes) l.edges) × AllZip (HasEnds l.nodes) (take l.edge-index l.edges) l.ends.items
