use Rattle.std.proofs.Common.{◌≡◌, drop}
use Rattle.gp_values.specs.Names.{has_name}
use Rattle.gp_clauses.proofs.marks.is_among.Given as goal

abbrev pub invariant-loop-other : goal.invariant-loop-other
invariant-loop-other l = has_name (drop l.other-index l.names) l.name ≡ has_name l.names l.name
