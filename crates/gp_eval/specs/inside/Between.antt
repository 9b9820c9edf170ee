-- Edges of a graph tested one by one.
use Rattle.std.specs.Prelude.{ℕ, ◌&&◌, Bool, false, List, Option, Some, None}
use Rattle.gp_values.specs.declared.atom.Atom.{Atom}
use Rattle.gp_values.specs.declared.marks.EdgeMark.{EdgeMark}
use Rattle.gp_values.specs.Atoms.{same_list}
use Rattle.gp_values.specs.Graph.{Graph, Edge, edge_at}
use Rattle.gp_syntax.specs.Expression.{MarkPattern}
use Rattle.gp_syntax.specs.Truth.{has_mark}

abbrev pub carried : Option Edge → List Atom → MarkPattern EdgeMark → Bool
carried None v mark = false
carried (Some d) v mark = same_list d.label v && has_mark mark d.mark

-- the edge of this number has that list and that mark
abbrev pub carries : Graph → List Atom → MarkPattern EdgeMark → ℕ → Bool
carries g v mark e = carried (edge_at g e) v mark
