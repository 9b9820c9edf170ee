-- Edits that are noted while a step is made.
use Rattle.std.specs.Prelude.{ℕ, List, ◌++◌, replicate}
use Rattle.gp_values.specs.Graph.{Graph}
use Rattle.gp_step.specs.declared.inverse.Inverse.{Inverse}
use Rattle.gp_step.specs.Undo.{Undoes}

-- what led back to a graph from the one does so from the other
abbrev pub KeepsUndo : List Inverse → Graph → List Inverse → Graph → Type 0
KeepsUndo us g vs h = (before : Graph) → Undoes us g before → Undoes vs h before

-- so many inverses before what led back from the one lead back from the other
abbrev pub KeepsUndoBehind : ℕ → Inverse → Graph → Graph → Type 0
KeepsUndoBehind n u g h = (us : List Inverse) → KeepsUndo us g (replicate n u ++ us) h
