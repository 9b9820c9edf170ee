-- The text of a graph.
use Rattle.std.specs.Prelude.{◌≡◌, ℕ, ◌+◌, Bool, true, false, List, [], ◌∷◌, ◌++◌, map, take, flat_map, codes, IsPermutation, IsSortedByKey}
use Rattle.std.specs.declared.cmp.Ordering.{Ordering}
use Rattle.std.specs.Ordering.{nat_cmp, ordering_then}
use Rattle.std.specs.Cmp.Lexicographic.{slice_cmp}
use Rattle.std.specs.Fmt.{decimal}
use Rattle.std.specs.FinMap.{entries}
use Rattle.gp_values.specs.declared.marks.NodeMark.{NodeMark}
use Rattle.gp_values.specs.declared.marks.NodeMark.TheVariants as node_marks
use Rattle.gp_values.specs.declared.marks.EdgeMark.{EdgeMark}
use Rattle.gp_values.specs.declared.marks.EdgeMark.TheVariants as edge_marks
use Rattle.gp_values.specs.Marks.{edge_mark_rank}
use Rattle.gp_values.specs.Labels.{label_text}
use Rattle.gp_values.specs.Graph.{Node, Edge, Graph}

-- ---- lines

abbrev pub root_text : Bool → List ℕ
root_text true = codes "(R)"
root_text false = []

abbrev pub node_mark_text : NodeMark → List ℕ
node_mark_text node_marks.None = []
node_mark_text node_marks.Red = codes " # red"
node_mark_text node_marks.Green = codes " # green"
node_mark_text node_marks.Blue = codes " # blue"
node_mark_text node_marks.Grey = codes " # grey"

abbrev pub edge_mark_text : EdgeMark → List ℕ
edge_mark_text edge_marks.None = []
edge_mark_text edge_marks.Red = codes " # red"
edge_mark_text edge_marks.Green = codes " # green"
edge_mark_text edge_marks.Blue = codes " # blue"
edge_mark_text edge_marks.Dashed = codes " # dashed"

-- a node by its number, as `  (n0(R), 7 # red)`, and a line feed
abbrev pub node_line : ℕ × Node → List ℕ
node_line (n, x) = codes "  (n" ++ decimal n ++ root_text x.root ++ codes ", " ++ label_text x.label ++ node_mark_text x.mark ++ codes ")\n"

-- an edge by the number of its line, as `  (e0, n0, n1, 7 # red)`, and a line feed
abbrev pub edge_line : ℕ → Edge → List ℕ
edge_line i d = codes "  (e" ++ decimal i ++ codes ", n" ++ decimal d.source ++ codes ", n" ++ decimal d.target ++ codes ", " ++ label_text d.label ++ edge_mark_text d.mark ++ codes ")\n"

-- the lines of edges, numbered on from i
abbrev pub edge_lines : ℕ → List Edge → List ℕ
edge_lines i [] = []
edge_lines i (d ∷ ds) = edge_line i d ++ edge_lines (i + 1) ds

-- ---- the order of edges

-- what edges are ordered by: source, target, mark (none, red, green, blue, dashed), and the label's text
pub record EdgeKey : Type 0 where
  pub source : ℕ
  pub target : ℕ
  pub mark : EdgeMark
  pub label : List ℕ

abbrev pub edge_key : Edge → EdgeKey
edge_key d = record { source = d.source; target = d.target; mark = d.mark; label = label_text d.label }

-- the first of these that differs decides; label texts go by their bytes
abbrev pub key_cmp : EdgeKey → EdgeKey → Ordering
key_cmp a b = ordering_then (nat_cmp a.source b.source) (ordering_then (nat_cmp a.target b.target) (ordering_then (nat_cmp (edge_mark_rank a.mark) (edge_mark_rank b.mark)) (slice_cmp nat_cmp a.label b.label)))

-- ---- the text

-- the edges, in the order of their numbers
abbrev pub edges_of : Graph → List Edge
edges_of g = map (λ (p : ℕ × Edge). p.1) (entries g.edges)

-- The nodes' lines in the order of their numbers, a bar, and the edges' lines in their order.
pub record IsGraphText (g : Graph) (text : List ℕ) : Type 0 where
  pub edges : List Edge
  pub same : IsPermutation (edges_of g) edges
  pub sorted : IsSortedByKey edge_key key_cmp edges
  pub is : text ≡ codes "[\n" ++ flat_map node_line (entries g.nodes) ++ codes "|\n" ++ edge_lines 0 edges ++ codes "]\n"

-- the text was put behind what was there
pub record WritesGraph (g : Graph) (old new : List ℕ) : Type 0 where
  pub text : List ℕ
  pub is_text : IsGraphText g text
  pub gained : new ≡ old ++ text

-- a beginning of it was
pub record BeginsGraph (g : Graph) (old new : List ℕ) : Type 0 where
  pub text : List ℕ
  pub is_text : IsGraphText g text
  pub count : ℕ
  pub gained : new ≡ old ++ take count text
