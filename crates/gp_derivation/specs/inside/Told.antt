-- What one line of a script tells, and where it leads.
use Rattle.std.specs.Prelude.{◌≡◌, ℕ, List, ◌∷◌, ◌++◌, Option, Some, None}
use Rattle.gp_syntax.specs.Rule.{Rule}
use Rattle.gp_syntax.specs.Tree.{item_of}
use Rattle.gp_syntax.specs.declared.found.Item.{Item}
use Rattle.gp_journal.specs.Trail.{root_of}
use Rattle.gp_journal.specs.Journal.{items_of}
use Rattle.gp_trace.specs.TraceText.{item_line}
use Rattle.gp_derivation.specs.Stepper.{IsMoved}
use Rattle.gp_derivation.specs.declared.line.Line.{Line}
use Rattle.gp_derivation.specs.declared.walker.Walker.{Walker}
use Rattle.gp_derivation.specs.Walk.{end_text, Walks}

-- what a move forward tells, of the item at the place
abbrev pub item_text : Option Item → List ℕ
item_text (Some i) = item_line (item_of i)
item_text None = end_text

-- The line leads from the one walker to the other: what it tells stands behind what was told before, and in front of
-- whatever the lines behind it come to.
pub record Follows (rules : List Rule) (line : Line) (v w : Walker) : Type 0 where
  pub piece : List ℕ
  pub told : w.text.items ≡ v.text.items ++ piece
  pub moved : IsMoved rules v.stepper w.stepper w.stepper.place
  pub walks : (lines : List Line) (rest : List ℕ) → Walks rules (root_of v.stepper.trail) (items_of v.stepper.items) w.stepper.place lines rest →
      Walks rules (root_of v.stepper.trail) (items_of v.stepper.items) v.stepper.place (line ∷ lines) (piece ++ rest)
