-- What a session tells of itself.
use Rattle.std.specs.Prelude.{◌≡◌, ℕ, zero, suc, ◌+◌, ◌-◌, ◌^◌, ◌<◌, Bool, true, false, List, [], ◌∷◌, ◌++◌, All, IfSome, length, map, take, Option, Some, None, slice_get, refl}
use Rattle.std.specs.Option.{option_map}
use Rattle.std.specs.Coded.{Coded, code_by, coded×, coded_ℕ, coded_list, coded_option}
use Rattle.gp_values.specs.Graph.{Graph}
use Rattle.gp_syntax.specs.declared.command.ProgramParts.{ProgramParts}
use Rattle.gp_syntax.specs.declared.rule.RuleParts.{RuleParts}
use Rattle.gp_syntax.specs.declared.found.Item.{Item}
use Rattle.gp_syntax.specs.declared.found.Item.TheVariants.{Step}
use Rattle.gp_syntax.specs.contracts.command.ProgramParts.{the_row as program_row}
use Rattle.gp_syntax.specs.contracts.found.Item.{the_row as item_row}
use Rattle.gp_syntax.specs.Rule.{Found}
use Rattle.gp_syntax.specs.Step.{Applies}
use Rattle.gp_syntax.specs.Run.{Program}
use Rattle.gp_syntax.specs.Tree.{rule_of_tree, program_of_tree}
use Rattle.gp_syntax.specs.WellFormed.{IsWellFormed}
use Rattle.opt_system.specs.declared.answers.Mode.{Mode}
use Rattle.gp_journal.specs.Trail.{Trail, fresh, advanced, forgotten, trail_code}
use Rattle.gp_journal.specs.Journal.{Kept, items_of}
use Rattle.gp_run.specs.Engine.{View}
use Rattle.gp_search.specs.declared.sought.Sought.{Sought}
use Rattle.gp_sets.specs.Sought.{HasSought, IsOfSet}
use Rattle.gp_system.specs.inside.Noted.{noted}

-- its program, its trail, how many steps are live, how many counted items are left, how many marks are open, and the items
-- that were made, where they are kept
pub record Shown : Type 0 where
  pub program : ProgramParts
  pub trail : Trail
  pub live : ℕ
  pub left : ℕ
  pub marks : ℕ
  pub kept : Option (List Item)

abbrev pub shown_code : Coded Shown
shown_code =
    code_by (ProgramParts × (Trail × (ℕ × (ℕ × (ℕ × Option (List Item))))))
    (coded× program_row.coded (coded× trail_code (coded× coded_ℕ (coded× coded_ℕ (coded× coded_ℕ (coded_option (coded_list item_row.coded)))))))
    (λ s. (s.program, (s.trail, (s.live, (s.left, (s.marks, s.kept))))))
    (λ p. record { program = p.0; trail = p.1.0; live = p.1.1.0; left = p.1.1.1.0; marks = p.1.1.1.1.0; kept = p.1.1.1.1.1 })
    (λ _. refl)

-- the graphs before the steps can be taken back to where a mark is open
abbrev pub seen : ℕ → List Graph → List Graph
seen zero bs = []
seen (suc n) bs = bs

abbrev pub view_of : Shown → View
view_of s = record {
  program = program_of_tree s.program;
  graph = s.trail.graph;
  before = seen s.marks s.trail.before;
  live = s.live;
  left = s.left;
  marks = s.marks;
  kept = option_map items_of s.kept;
}

-- at the beginning of a run
abbrev pub begun : ProgramParts → Graph → ℕ → Option (List Item) → Shown
begun p host left kept = record { program = p; trail = fresh host; live = 0; left = left; marks = 0; kept = kept }

-- where no mark is open what takes steps back is forgotten
abbrev pub settled : ℕ → Trail → Trail
settled zero t = forgotten t
settled (suc n) t = t

-- items behind those that are kept
abbrev pub kept_and : List Item → Option (List Item) → Option (List Item)
kept_and more kept = option_map (λ (is : List Item). is ++ more) kept

abbrev pub items_in : Option Kept → Option (List Item)
items_in o = option_map (λ (k : Kept). k.items) o

-- no items yet, where they are kept
abbrev pub none_if : Bool → Option (List Item)
none_if true = Some []
none_if false = None

-- one step more, by the match
abbrev pub stepped : Shown → Found → Shown
stepped s m = record s { trail = settled s.marks (advanced (map rule_of_tree s.program.rules) s.trail m); live = s.live + 1; left = s.left - 1; kept = kept_and (Step m ∷ []) s.kept }

-- these matches were taken for a goal elsewhere, with so many counted items, and led to this trail
abbrev pub taken_in : Shown → Trail → Mode → List Found → ℕ → Shown
taken_in s t mode es used = record s { trail = settled s.marks t; live = s.live + length es; left = s.left - used; kept = kept_and (take used (noted mode es)) s.kept }

-- The rules are those of the program; live steps and items that are left are few enough to be counted; and where items are
-- kept, each open mark has room for one that takes steps back.
pub record IsSound (p : ProgramParts) (rules : List RuleParts) (live left marks : ℕ) (items : Option Kept) : Type 0 where
  pub same_rules : rules ≡ p.rules
  pub well_formed : All IsWellFormed (map rule_of_tree p.rules)
  pub few : live + left < 2 ^ 64
  pub room : IfSome items (λ (k : Kept). k.backs ≡ marks)

-- the whole of what the call's set has is searched
pub record HasSoughtCall (program : Program) (c : ℕ) (g : Graph) (s : Sought) : Type 0 where
  pub set : List ℕ
  pub is_set : slice_get program.sets c ≡ Some set
  pub sought : HasSought program.rules set 1 0 g s

-- the match is one of the call's set, and applies
pub record AppliesForCall (program : Program) (c : ℕ) (g : Graph) (m : Found) : Type 0 where
  pub set : List ℕ
  pub is_set : slice_get program.sets c ≡ Some set
  pub found : IsOfSet program.rules set 1 0 m (λ r. Applies r g m)
