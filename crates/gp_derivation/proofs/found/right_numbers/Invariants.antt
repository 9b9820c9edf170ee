use Rattle.std.proofs.Common.{◌+◌, drop}
use Rattle.std.specs.Prelude.{count_by, is_none}
use Rattle.gp_syntax.specs.Rule.{kept_edges}
use Rattle.gp_syntax.specs.Tree.{rule_of_tree}
use Rattle.gp_step.specs.Halves.{images_from}
use Rattle.gp_derivation.proofs.Rights.{IsRest}
use Rattle.gp_derivation.proofs.found.right_numbers.Given as goal

abbrev pub invariant-loop-edge : goal.invariant-loop-edge
invariant-loop-edge l =
    let kept = kept_edges (rule_of_tree l.parts) in
    IsRest l.found.edges l.parts (drop l.edge-index l.edge-items) l.numbers.items l.free (images_from l.found.edges kept l.next) (l.next + count_by is_none kept)
