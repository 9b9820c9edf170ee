use Rattle.std.proofs.Common.{◌≡◌, drop}
use Rattle.std.specs.List.{list_all}
use Rattle.gp_clauses.specs.Size.{condition_size}
use Rattle.gp_clauses.proofs.Parts.{part_has_marks}
use Rattle.gp_clauses.proofs.marks.+condition_has_marks.Given as goal

abbrev pub decreases-condition_has_marks : goal.decreases-condition_has_marks
decreases-condition_has_marks l = condition_size l.c.now

abbrev pub invariant-parts : goal.invariant-parts
invariant-parts l = list_all part_has_marks (drop l.part-index l.rest) ≡ list_all part_has_marks l.rest
