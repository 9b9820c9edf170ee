use Rattle.std.proofs.Common.{◌≡◌, map, drop, fold}
use Rattle.gp_clauses.specs.inside.Tables.{with_kept, with_group, declared_variable}
use Rattle.gp_clauses.proofs.variables.Variables.add_group.Given as goal

abbrev pub invariant-loop-name : goal.invariant-loop-name
invariant-loop-name l =
    fold (with_kept l.kept) l.self (map (λ n. declared_variable n l.group.variable_type) (drop l.name-index l.name-items)) ≡ with_group l.kept l.fn.self l.group
