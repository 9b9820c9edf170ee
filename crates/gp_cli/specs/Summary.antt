-- The summary of a demo: what is counted of the graph that it ends with and of its trace, and the text of that.
use Rattle.std.specs.Prelude.{ℕ, Bool, true, false, List, length, ◌++◌, count_by, codes}
use Rattle.std.specs.Fmt.{decimal}
use Rattle.std.specs.FinMap as map
use Rattle.gp_values.specs.declared.marks.NodeMark.{NodeMark}
use Rattle.gp_values.specs.declared.marks.NodeMark.TheVariants as marks
use Rattle.gp_values.specs.Graph.{Graph, Node, node_count}
use Rattle.gp_syntax.specs.Run.{Item, live}
use Rattle.gp_gen.specs.declared.kind.Kind.{Kind}
use Rattle.gp_words.specs.CommandLine.{kind_name}

-- how many edges there are
abbrev pub edge_count : Graph → ℕ
edge_count g = map.len g.edges

abbrev pub same_mark : NodeMark → NodeMark → Bool
same_mark marks.None marks.None = true
same_mark marks.Red marks.Red = true
same_mark marks.Green marks.Green = true
same_mark marks.Blue marks.Blue = true
same_mark marks.Grey marks.Grey = true
same_mark a b = false

-- how many nodes have the mark
abbrev pub marked_count : NodeMark → Graph → ℕ
marked_count mark g = count_by (λ (e : ℕ × Node). same_mark e.1.mark mark) (map.entries g.nodes)

-- how many steps are live at the end of a trace
abbrev pub live_count : List Item → ℕ
live_count t = length (live t)

-- a line: a name, a blank, and a number
abbrev pub count_line : List ℕ → ℕ → List ℕ
count_line name count = name ++ codes " " ++ decimal count ++ codes "\n"

-- the seven lines for a demo of this kind and size that ends with this graph and this trace
abbrev pub summary_text : Kind → ℕ → Graph → List Item → List ℕ
summary_text kind size g t =
    codes "kind " ++ kind_name kind ++ codes "\n"
    ++ count_line (codes "size") size
    ++ count_line (codes "nodes") (node_count g)
    ++ count_line (codes "edges") (edge_count g)
    ++ count_line (codes "red") (marked_count marks.Red g)
    ++ count_line (codes "blue") (marked_count marks.Blue g)
    ++ count_line (codes "steps") (live_count t)
