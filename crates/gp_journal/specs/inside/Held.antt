-- How a trail is held: its graph, and what takes its live steps back.
use Rattle.std.specs.Prelude.{List, [], ◌∷◌, reverse}
use Rattle.gp_values.specs.Graph.{Graph}
use Rattle.gp_step.specs.declared.inverse.Inverse.{Inverse}
use Rattle.gp_step.specs.Undo.{Fits, undone_by}
use Rattle.gp_journal.specs.declared.trail.Trail.TheInside.{Inside}
use Rattle.gp_journal.specs.Trail.{Trail}

-- the graphs that taking back leads to, one after another
abbrev pub befores : List (List Inverse) → Graph → List Graph
befores [] g = []
befores (u ∷ us) g = undone_by u g ∷ befores us (undone_by u g)

abbrev pub AllFit : List (List Inverse) → Graph → Type 0
AllFit [] g = Unit {0}
AllFit (u ∷ us) g = Fits u g × AllFit us (undone_by u g)

abbrev pub trail_of : Inside → Trail
trail_of a = record { graph = a.graph.graph; before = befores (reverse a.undos.items) a.graph.graph; caught = a.caught }

abbrev pub IsSound : Inside → Type 0
IsSound a = AllFit (reverse a.undos.items) a.graph.graph
