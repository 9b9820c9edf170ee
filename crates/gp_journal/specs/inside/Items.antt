-- How many items a match takes.
use Rattle.std.specs.Prelude.{ℕ}
use Rattle.gp_journal.specs.declared.mode.Mode.{Mode}
use Rattle.gp_journal.specs.declared.mode.Mode.TheVariants.{Once, Saturate}

abbrev pub items_each : Mode → ℕ
items_each Once = 1
items_each Saturate = 2
