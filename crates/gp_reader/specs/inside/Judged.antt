-- Which commands may break, as a test, where it is known of procedures.
use Rattle.std.specs.Prelude.{◌≡◌, ◌⊎◌, ℕ, ◌+◌, ◌<◌, ◌||◌, Bool, true, false, List, [], ◌∷◌, map, fold, length, slice_get, slice_index_or, Some, Contains}
use Rattle.gp_syntax.specs.Run.{Command, Call, Seq, If, Try, Loop, Or, Skip, Fail, Break, Procedure}
use Rattle.gp_syntax.specs.Run as meant
use Rattle.gp_syntax.specs.declared.command.Command.{Command as Tree}
use Rattle.gp_syntax.specs.Tree.{command_of}
use Rattle.gp_syntax.specs.Scoped.{MayBreak, conditions_in}
use Rattle.gp_reader.specs.declared.breaks.Judged.{Judged}
use Rattle.gp_reader.specs.inside.Procedures.{IsMarked, procedures_alone}
use Rattle.gp_reader.specs.inside.Visits.{unmarked}

abbrev pub is_known : List Bool → ℕ → Bool
is_known marks k = slice_index_or marks k false

abbrev pub breaks_by : List Bool → Command → Bool
breaks_by known (Call c) = false
breaks_by known (Seq p q) = breaks_by known p || breaks_by known q
breaks_by known (If k p q) = breaks_by known k || (breaks_by known p || breaks_by known q)
breaks_by known (Try k p q) = breaks_by known k || (breaks_by known p || breaks_by known q)
breaks_by known (Loop p) = false
breaks_by known (Or p q) = breaks_by known p || breaks_by known q
breaks_by known Skip = false
breaks_by known Fail = false
breaks_by known Break = true
breaks_by known (Procedure k) = is_known known k

-- a condition in it may break
abbrev pub strays_by : List Bool → Command → Bool
strays_by known (Call c) = false
strays_by known (Seq p q) = strays_by known p || strays_by known q
strays_by known (If k p q) = (breaks_by known k || strays_by known k) || (strays_by known p || strays_by known q)
strays_by known (Try k p q) = (breaks_by known k || strays_by known k) || (strays_by known p || strays_by known q)
strays_by known (Loop p) = strays_by known p
strays_by known (Or p q) = strays_by known p || strays_by known q
strays_by known Skip = false
strays_by known Fail = false
strays_by known Break = false
strays_by known (Procedure k) = false

abbrev pub judged_by : List Bool → Command → Judged
judged_by known c = record { breaks = breaks_by known c; strays = strays_by known c }

-- what holds of either
abbrev pub either : Judged → Judged → Judged
either j k = record { breaks = j.breaks || k.breaks; strays = j.strays || k.strays }

-- of a condition and its branches
abbrev pub condition_before : Judged → Judged → Judged
condition_before k j = record { breaks = k.breaks || j.breaks; strays = (k.breaks || k.strays) || j.strays }

-- of the parts of a chain, behind what holds of those before
abbrev pub rest_judged : List Bool → Judged → List Tree → Judged
rest_judged known j qs = fold either j (map (λ (q : Tree). judged_by known (command_of q)) qs)

-- those that are marked may break
abbrev pub AreBreaking : List Command → List Bool → Type 0
AreBreaking procedures marks = (k : ℕ) → IsMarked marks k → (body : Command) × ((slice_get procedures k ≡ Some body) × MayBreak (procedures_alone procedures) body)

-- and each procedure that breaks where these do is marked
abbrev pub AreAllBreaking : List Command → List Bool → Type 0
AreAllBreaking procedures marks = (k : ℕ) (body : Command) → slice_get procedures k ≡ Some body → breaks_by marks body ≡ true → IsMarked marks k

pub record MarksBreaking (procedures : List Command) (marks : List Bool) : Type 0 where
  pub count : length marks ≡ length procedures
  pub sound : AreBreaking procedures marks
  pub all : AreAllBreaking procedures marks

-- a round: marks are kept, and where nothing is new, no more is to be found; else fewer are unmarked
pub record FindsMore (procedures : List Command) (old new : List Bool) (more : Bool) : Type 0 where
  pub count : length new ≡ length old
  pub sound : AreBreaking procedures old → AreBreaking procedures new
  pub done : more ≡ false → AreAllBreaking procedures new
  pub fewer : more ≡ true → unmarked new < unmarked old
