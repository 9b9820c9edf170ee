-- The items of a run, where they are kept.
use Rattle.std.specs.Prelude.{ℕ, ◌+◌, ◌-◌, List, [], ◌∷◌, ◌++◌}
use Rattle.gp_syntax.specs.Rule.{Found}
use Rattle.gp_syntax.specs.declared.found.Item.{Item}
use Rattle.gp_syntax.specs.declared.found.Item.TheVariants.{Step, Turn, Back}
use Rattle.opt_system.specs.declared.answers.Mode.{Mode}
use Rattle.opt_system.specs.declared.answers.Mode.TheVariants.{Once, Saturate}
use Rattle.gp_journal.specs.Journal as journal
use Rattle.gp_journal.specs.Journal.{Kept, with_item}
use Rattle.gp_journal.specs.declared.mode.Mode.TheVariants as mode

-- the items of the matches that were taken for a goal, by its mode
abbrev pub noted : Mode → List Found → List Item
noted Once found = journal.noted mode.Once found
noted Saturate found = journal.noted mode.Saturate found

-- a step more; a turn more; and that none or some steps are taken back, the room for which was made before
abbrev pub with_step : Found → Kept → Kept
with_step m k = with_item k (Step m)

abbrev pub with_turn : Kept → Kept
with_turn k = with_item k Turn

abbrev pub with_end : Kept → Kept
with_end k = with_item k (Back 0)

abbrev pub with_back : ℕ → Kept → Kept
with_back n k = record { items = k.items ++ Back n ∷ []; backs = k.backs - 1 }

-- items behind the others
abbrev pub with_all : List Item → Kept → Kept
with_all more k = record k { items = k.items ++ more }

-- the room for one more that takes steps back
abbrev pub with_room : Kept → Kept
with_room k = record k { backs = k.backs + 1 }

abbrev pub without_room : Kept → Kept
without_room k = record k { backs = k.backs - 1 }

abbrev pub backs_in : Kept → ℕ
backs_in k = k.backs
