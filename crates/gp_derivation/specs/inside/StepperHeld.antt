-- How a stepper is held.
use Rattle.std.specs.Prelude.{◌≡◌}
use Rattle.gp_journal.specs.Journal.{items_of}
use Rattle.gp_derivation.specs.declared.stepper.Stepper.TheInside.{Inside}
use Rattle.gp_derivation.specs.Stepper.{Stepper}
use Rattle.gp_derivation.specs.inside.Stands.{stacks_of, stacks_at, shown_at}

abbrev pub stepper_of : Inside → Stepper
stepper_of a = shown_at a.items.items a.place a.standing

abbrev pub IsSound : Inside → Type 0
IsSound a = stacks_of a.standing ≡ stacks_at (items_of a.items.items) a.place
