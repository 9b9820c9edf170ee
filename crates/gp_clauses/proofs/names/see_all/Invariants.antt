use Rattle.std.proofs.Common.{◌≡◌, ◌++◌, map, drop}
use Rattle.gp_values.specs.Names.{first_doubled_behind}
use Rattle.gp_clauses.proofs.names.see_all.Given as goal

abbrev pub invariant-loop-item : goal.invariant-loop-item
invariant-loop-item g l =
    (first_doubled_behind l.seen (map g.T.Named.name_of (drop l.item-index l.items)) ≡ first_doubled_behind l.initial.seen (map g.T.Named.name_of l.items)) × (l.seen ++ map g.T.Named.name_of (drop l.item-index l.items) ≡ l.initial.seen ++ map g.T.Named.name_of l.items)
