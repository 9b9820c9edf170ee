-- What is asked of the marks of right nodes and edges.
use Rattle.std.specs.Prelude.{Bool, ◌&&◌}
use Rattle.std.specs.List.{list_all}
use Rattle.gp_syntax.specs.Declaration.{Declaration}
use Rattle.gp_syntax.specs.Fault.{keeps_node_mark, keeps_edge_mark}

abbrev pub keeps_marks : Declaration → Bool
keeps_marks d = list_all (keeps_node_mark d) d.right.nodes && list_all (keeps_edge_mark d) d.right.edges
