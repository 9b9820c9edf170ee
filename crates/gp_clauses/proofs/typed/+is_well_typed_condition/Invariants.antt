use Rattle.std.proofs.Common.{◌≡◌, drop}
use Rattle.std.specs.List.{list_all}
use Rattle.gp_clauses.specs.Size.{condition_size}
use Rattle.gp_clauses.specs.inside.Tables.{type_by}
use Rattle.gp_clauses.proofs.Parts.{is_typed_part}
use Rattle.gp_clauses.proofs.typed.+is_well_typed_condition.Given as goal

abbrev pub decreases-is_well_typed_condition : goal.decreases-is_well_typed_condition
decreases-is_well_typed_condition l = condition_size l.c.now

abbrev pub invariant-parts : goal.invariant-parts
invariant-parts l = list_all (is_typed_part (type_by l.variables)) (drop l.part-index l.rest) ≡ list_all (is_typed_part (type_by l.variables)) l.rest
