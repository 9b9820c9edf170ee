-- The texts of a demo workload: its program, and its host.
use Rattle.std.specs.Prelude.{ℕ, ◌+◌, Bool, true, false, Option, Some, None, List, [], ◌∷◌, ◌++◌, flat_map, codes}
use Rattle.std.specs.Fmt.{decimal}
use Rattle.gp_gen.specs.declared.kind.Kind.{Kind}
use Rattle.gp_gen.specs.declared.kind.Kind.TheVariants.{Closure, Colour, Tree}
use Rattle.gp_gen.specs.Host.{HostNode, HostEdge, host_nodes, host_edges}

-- ---- hosts

abbrev pub mark_text : Bool → List ℕ
mark_text true = codes " # red"
mark_text false = []

abbrev pub edge_label_text : Option ℕ → List ℕ
edge_label_text None = codes "empty"
edge_label_text (Some k) = decimal k

-- a node by its number, as `  (0, 7 # red)`, and a line feed
abbrev pub node_line : HostNode → List ℕ
node_line x = codes "  (" ++ decimal x.number ++ codes ", " ++ decimal x.label ++ mark_text x.is_red ++ codes ")\n"

-- an edge by its number, as `  (e0, 0, 1, 7)`, and a line feed
abbrev pub edge_line : ℕ → HostEdge → List ℕ
edge_line i e = codes "  (e" ++ decimal i ++ codes ", " ++ decimal e.source ++ codes ", " ++ decimal e.target ++ codes ", " ++ edge_label_text e.label ++ codes ")\n"

-- the lines of edges, numbered on from i
abbrev pub edge_lines : ℕ → List HostEdge → List ℕ
edge_lines i [] = []
edge_lines i (e ∷ es) = edge_line i e ++ edge_lines (i + 1) es

-- the nodes, a bar, and the edges, all in the order of their lists
abbrev pub text_of_host : List HostNode → List HostEdge → List ℕ
text_of_host nodes edges = codes "[\n" ++ flat_map node_line nodes ++ codes "|\n" ++ edge_lines 0 edges ++ codes "]\n"

abbrev pub host_text : Kind → ℕ → ℕ → List ℕ
host_text kind n seed = text_of_host (host_nodes kind n) (host_edges kind n seed)

-- ---- programs

-- an edge is added from the first to the last of three nodes in a row, where there is none
abbrev pub link : List ℕ
link =
    codes "link(a,b,x,y,z:list) [ (n0, x) (n1, y) (n2, z) | (e0, n0, n1, a) (e1, n1, n2, b) ]\n"
    ++ codes " => [ (n0, x) (n1, y) (n2, z) | (e0, n0, n1, a) (e1, n1, n2, b) (e2, n0, n2, empty) ]\n"
    ++ codes " interface = {n0, n1, n2} where not edge(n0, n2)\n"

-- a node without a mark becomes blue beside a red one
abbrev pub toblue : List ℕ
toblue =
    codes "toblue(x,y,a:list) [ (n0, x # red) (n1, y) | (e0(B), n0, n1, a) ]\n"
    ++ codes " => [ (n0, x # red) (n1, y # blue) | (e0(B), n0, n1, a) ] interface = {n0, n1}\n"

-- and red beside a blue one
abbrev pub tored : List ℕ
tored =
    codes "tored(x,y,a:list) [ (n0, x # blue) (n1, y) | (e0(B), n0, n1, a) ]\n"
    ++ codes " => [ (n0, x # blue) (n1, y # red) | (e0(B), n0, n1, a) ] interface = {n0, n1}\n"

-- a node without a mark and with a label above 0 becomes red and gets two nodes below it, with labels that are one less
abbrev pub grow : List ℕ
grow =
    codes "grow(n:int) [ (n0, n) | ]\n"
    ++ codes " => [ (n0, n # red) (n1, n-1) (n2, n-1) | (e0, n0, n1, empty) (e1, n0, n2, empty) ]\n"
    ++ codes " interface = {n0} where n > 0\n"

abbrev pub program_text : Kind → List ℕ
program_text Closure = codes "Main = link!\n" ++ link
program_text Colour = codes "Main = {toblue, tored}!\n" ++ toblue ++ tored
program_text Tree = codes "Main = grow!\n" ++ grow
