use Rattle.std.proofs.Common.{◌≡◌, drop, fold}
use Rattle.gp_clauses.specs.Shapes.{operands}
use Rattle.gp_clauses.specs.Size.{size}
use Rattle.gp_clauses.specs.inside.Tables.{type_by}
use Rattle.gp_clauses.proofs.Told.{with_facts, AreSmall}
use Rattle.gp_clauses.proofs.facts.+facts_in.Given as goal

abbrev pub decreases-facts_in : goal.decreases-facts_in
decreases-facts_in l = size l.e.now

abbrev pub invariant-operands : goal.invariant-operands
invariant-operands l =
    (fold (with_facts (type_by l.variables)) l.total (drop l.at (operands l.links)) ≡ fold (with_facts (type_by l.variables)) l.initial.total (operands l.links)) × AreSmall l.total
