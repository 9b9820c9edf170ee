-- A journal: a trail, and the items that led to it.
use Rattle.std.specs.Prelude.{ℕ, ◌+◌, ◌-◌, List, [], ◌∷◌, ◌++◌, map, refl}
use Rattle.std.specs.Coded.{Coded, code_by, coded×, coded_ℕ, coded_list}
use Rattle.gp_syntax.specs.Rule.{Rule, Found}
use Rattle.gp_syntax.specs.Run as meant
use Rattle.gp_syntax.specs.declared.found.Item.{Item}
use Rattle.gp_syntax.specs.declared.found.Item.TheVariants.{Step, Turn, Back}
use Rattle.gp_syntax.specs.contracts.found.Item.{the_row as item_row}
use Rattle.gp_syntax.specs.Tree.{item_of}
use Rattle.gp_journal.specs.declared.mode.Mode.{Mode}
use Rattle.gp_journal.specs.declared.mode.Mode.TheVariants.{Once, Saturate}
use Rattle.gp_journal.specs.Trail.{Trail, trail_code, advanced, back_by, rooted}
use Rattle.gp_journal.specs.Leads.{Leads}

-- backs: for how many more items that take steps back room is kept
pub record Journal : Type 0 where
  pub trail : Trail
  pub items : List Item
  pub backs : ℕ

-- what items stand for
abbrev pub items_of : List Item → List meant.Item
items_of is = map item_of is

-- The journal is of a list of rules: by these its items lead from its root graph to its trail.
abbrev pub IsJournalOf : List Rule → Journal → Type 0
IsJournalOf rules j = Leads rules (items_of j.items) (rooted j.trail) j.trail

-- ---- what the calls do

abbrev pub with_step : List Rule → Journal → Found → Journal
with_step rules j m = record { trail = advanced rules j.trail m; items = j.items ++ Step m ∷ []; backs = j.backs }

abbrev pub with_turn : Journal → Journal
with_turn j = record j { items = j.items ++ Turn ∷ [] }

abbrev pub with_mark : Journal → Journal
with_mark j = record j { backs = j.backs + 1 }

abbrev pub without_mark : Journal → Journal
without_mark j = record j { backs = j.backs - 1 }

abbrev pub with_back : ℕ → Journal → Journal
with_back k j = record { trail = back_by k j.trail; items = j.items ++ Back k ∷ []; backs = j.backs - 1 }

-- items with the room that is kept
pub record Kept : Type 0 where
  pub items : List Item
  pub backs : ℕ

-- one item more
abbrev pub with_item : Kept → Item → Kept
with_item k i = record k { items = k.items ++ i ∷ [] }

-- the items of matches that were taken for a goal: each step, and where more are sought the turn after it
abbrev pub noted : Mode → List Found → List Item
noted mode [] = []
noted Once (m ∷ ms) = Step m ∷ noted Once ms
noted Saturate (m ∷ ms) = Step m ∷ Turn ∷ noted Saturate ms

-- ---- how they are stored in values that contracts see

abbrev pub journal_code : Coded Journal
journal_code =
    code_by (Trail × (List Item × ℕ)) (coded× trail_code (coded× (coded_list item_row.coded) coded_ℕ)) (λ j. (j.trail, (j.items, j.backs)))
    (λ p. record { trail = p.0; items = p.1.0; backs = p.1.1 }) (λ _. refl)

abbrev pub kept_code : Coded Kept
kept_code = code_by (List Item × ℕ) (coded× (coded_list item_row.coded) coded_ℕ) (λ k. (k.items, k.backs)) (λ p. record { items = p.0; backs = p.1 }) (λ _. refl)
