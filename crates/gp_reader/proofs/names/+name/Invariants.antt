use Rattle.std.proofs.Common.{◌≡◌, List, ◌++◌, slice_get, drop}
use Rattle.gp_values.specs.Names.{Name}
use Rattle.gp_scope.specs.Outline.{outline}
use Rattle.gp_reader.specs.inside.Named.{procedure_names}
use Rattle.gp_reader.proofs.names.+name.Given as goal

abbrev pub invariant-name_among-each : goal.invariant-name_among-each
invariant-name_among-each l = (ns : List Name) → slice_get (procedure_names (outline (drop l.declaration-index l.declarations)) ++ ns) l.left ≡ slice_get (procedure_names (outline l.declarations) ++ ns) l.fn.left
