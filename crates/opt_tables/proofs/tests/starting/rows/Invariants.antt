use Rattle.std.proofs.Common.{◌≡◌, [], replicate, true, vec_len}
use Rattle.std.specs.List.{All}
use Rattle.opt_cells.specs.Row.{row}
use Rattle.opt_tables.proofs.tests.starting.rows.Given as goal

abbrev pub invariant-loop : goal.invariant-loop
invariant-loop l = record { len : vec_len l.all ≡ l.counter; all : All (λ r. r ≡ row (replicate l.count true) []) l.all.items }
