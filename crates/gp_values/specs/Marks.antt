-- The words of marks, and their order.
use Rattle.std.specs.Prelude.{ℕ, if◌then◌else◌, Option, Some, None, codes}
use Rattle.gp_values.specs.Names.{Name, same_name}
use Rattle.gp_values.specs.declared.marks.NodeMark.{NodeMark}
use Rattle.gp_values.specs.declared.marks.NodeMark.TheVariants as node_marks
use Rattle.gp_values.specs.declared.marks.EdgeMark.{EdgeMark}
use Rattle.gp_values.specs.declared.marks.EdgeMark.TheVariants as edge_marks

-- the mark of a node that a word names
abbrev pub node_mark_named : Name → Option NodeMark
node_mark_named word =
    if same_name word (codes "red") then Some node_marks.Red else if same_name word (codes "green") then Some node_marks.Green
    else if same_name word (codes "blue") then Some node_marks.Blue else if same_name word (codes "grey") then Some node_marks.Grey else None

-- the mark of an edge that a word names
abbrev pub edge_mark_named : Name → Option EdgeMark
edge_mark_named word =
    if same_name word (codes "red") then Some edge_marks.Red else if same_name word (codes "green") then Some edge_marks.Green
    else if same_name word (codes "blue") then Some edge_marks.Blue else if same_name word (codes "dashed") then Some edge_marks.Dashed else None

-- none, red, green, blue, dashed
abbrev pub edge_mark_rank : EdgeMark → ℕ
edge_mark_rank edge_marks.None = 0
edge_mark_rank edge_marks.Red = 1
edge_mark_rank edge_marks.Green = 2
edge_mark_rank edge_marks.Blue = 3
edge_mark_rank edge_marks.Dashed = 4
