-- The text of a graph, cut into pieces.
use Rattle.std.proofs.Common.{◌≡◌, ℕ, suc, ◌+◌, Bool, true, false, List, [], ◌∷◌, ◌++◌, pos, negsuc, codes, decimal, refl, sym, ap, ◌∙◌, append_assoc}
use Rattle.std.specs.Prelude.{flat_map}
use Rattle.std.proofs.lemmas.List.{append-nil}
use Rattle.gp_tokens.specs.declared.token.Kind.TheVariants as k
use Rattle.gp_values.specs.declared.atom.Atom.{Atom}
use Rattle.gp_values.specs.declared.atom.Atom.TheVariants.{Int, Str}
use Rattle.gp_values.specs.declared.marks.NodeMark.{NodeMark}
use Rattle.gp_values.specs.declared.marks.NodeMark.TheVariants as node_marks
use Rattle.gp_values.specs.declared.marks.EdgeMark.{EdgeMark}
use Rattle.gp_values.specs.declared.marks.EdgeMark.TheVariants as edge_marks
use Rattle.gp_values.specs.Labels.{atom_text, label_text}
use Rattle.gp_values.specs.Graph.{Node, Edge}
use Rattle.gp_hostfile.specs.GraphText.{root_text, node_mark_text, edge_mark_text, node_line, edge_line, edge_lines}
use Rattle.gp_tokens.proofs.Pieces.{Piece, blank, word, spelled, spelled-append}

-- ---- pieces

abbrev pub open_sign : Piece
open_sign = word k.OpenParenthesis (codes "(")

abbrev pub close_sign : Piece
close_sign = word k.CloseParenthesis (codes ")")

abbrev pub comma : Piece
comma = word k.Comma (codes ",")

-- a letter and a number
abbrev pub named : ℕ → ℕ → Piece
named letter n = word k.Word (letter ∷ decimal n)

abbrev pub root_pieces : Bool → List Piece
root_pieces true = open_sign ∷ word k.Word (codes "R") ∷ close_sign ∷ []
root_pieces false = []

abbrev pub marked : List ℕ → List Piece
marked name = blank 32 ∷ word k.Hash (codes "#") ∷ blank 32 ∷ word k.Word name ∷ []

abbrev pub node_mark_pieces : NodeMark → List Piece
node_mark_pieces node_marks.None = []
node_mark_pieces node_marks.Red = marked (codes "red")
node_mark_pieces node_marks.Green = marked (codes "green")
node_mark_pieces node_marks.Blue = marked (codes "blue")
node_mark_pieces node_marks.Grey = marked (codes "grey")

abbrev pub edge_mark_pieces : EdgeMark → List Piece
edge_mark_pieces edge_marks.None = []
edge_mark_pieces edge_marks.Red = marked (codes "red")
edge_mark_pieces edge_marks.Green = marked (codes "green")
edge_mark_pieces edge_marks.Blue = marked (codes "blue")
edge_mark_pieces edge_marks.Dashed = marked (codes "dashed")

abbrev pub atom_pieces : Atom → List Piece
atom_pieces (Int (pos n)) = word k.Number (decimal n) ∷ []
atom_pieces (Int (negsuc n)) = word k.Minus (codes "-") ∷ word k.Number (decimal (suc n)) ∷ []
atom_pieces (Str s) = word k.String (34 ∷ s ++ 34 ∷ []) ∷ []

-- atoms with a colon before each
abbrev pub more_pieces : List Atom → List Piece
more_pieces [] = []
more_pieces (x ∷ xs) = word k.Colon (codes ":") ∷ (atom_pieces x ++ more_pieces xs)

abbrev pub label_pieces : List Atom → List Piece
label_pieces [] = word k.Word (codes "empty") ∷ []
label_pieces (x ∷ xs) = atom_pieces x ++ more_pieces xs

abbrev pub line_end : List Piece
line_end = close_sign ∷ blank 10 ∷ []

abbrev pub node_pieces : ℕ × Node → List Piece
node_pieces (n, x) = blank 32 ∷ blank 32 ∷ open_sign ∷ named 110 n ∷ (root_pieces x.root ++ (comma ∷ blank 32 ∷ (label_pieces x.label ++ (node_mark_pieces x.mark ++ line_end))))

abbrev pub edge_pieces : ℕ → Edge → List Piece
edge_pieces i d =
    blank 32 ∷ blank 32 ∷ open_sign ∷ named 101 i ∷ comma ∷ blank 32 ∷ named 110 d.source ∷ comma ∷ blank 32 ∷ named 110 d.target ∷ comma ∷ blank 32
    ∷ (label_pieces d.label ++ (edge_mark_pieces d.mark ++ line_end))

abbrev pub nodes_pieces : List (ℕ × Node) → List Piece
nodes_pieces [] = []
nodes_pieces ((n, x) ∷ ns) = node_pieces (n, x) ++ nodes_pieces ns

-- the lines of edges, numbered on from i
abbrev pub edges_pieces : ℕ → List Edge → List Piece
edges_pieces i [] = []
edges_pieces i (d ∷ ds) = edge_pieces i d ++ edges_pieces (i + 1) ds

abbrev pub text_end : List Piece
text_end = word k.CloseBracket (codes "]") ∷ blank 10 ∷ []

abbrev pub graph_pieces : List (ℕ × Node) → List Edge → List Piece
graph_pieces ns ds = word k.OpenBracket (codes "[") ∷ blank 10 ∷ (nodes_pieces ns ++ (word k.Bar (codes "|") ∷ blank 10 ∷ (edges_pieces 0 ds ++ text_end)))

-- ---- what they spell

both : (ps qs : List Piece) (s t : List ℕ) → spelled ps ≡ s → spelled qs ≡ t → spelled (ps ++ qs) ≡ s ++ t
both ps qs s t e f = spelled-append ps qs ∙ (λ i. e i ++ f i)

spelled_root : (r : Bool) → spelled (root_pieces r) ≡ root_text r
spelled_root true = refl
spelled_root false = refl

spelled_node_mark : (m : NodeMark) → spelled (node_mark_pieces m) ≡ node_mark_text m
spelled_node_mark node_marks.None = refl
spelled_node_mark node_marks.Red = refl
spelled_node_mark node_marks.Green = refl
spelled_node_mark node_marks.Blue = refl
spelled_node_mark node_marks.Grey = refl

spelled_edge_mark : (m : EdgeMark) → spelled (edge_mark_pieces m) ≡ edge_mark_text m
spelled_edge_mark edge_marks.None = refl
spelled_edge_mark edge_marks.Red = refl
spelled_edge_mark edge_marks.Green = refl
spelled_edge_mark edge_marks.Blue = refl
spelled_edge_mark edge_marks.Dashed = refl

spelled_atom : (x : Atom) → spelled (atom_pieces x) ≡ atom_text x
spelled_atom (Int (pos n)) = append-nil (decimal n)
spelled_atom (Int (negsuc n)) = ap (λ t. 45 ∷ t) (append-nil (decimal (suc n)))
spelled_atom (Str s) = append-nil (34 ∷ s ++ 34 ∷ [])

spelled_more : (xs : List Atom) → spelled (more_pieces xs) ≡ flat_map (λ y. codes ":" ++ atom_text y) xs
spelled_more [] = refl
spelled_more (x ∷ xs) = ap (λ t. 58 ∷ t) (both (atom_pieces x) (more_pieces xs) _ _ (spelled_atom x) (spelled_more xs))

spelled_label : (v : List Atom) → spelled (label_pieces v) ≡ label_text v
spelled_label [] = refl
spelled_label (x ∷ xs) = both (atom_pieces x) (more_pieces xs) _ _ (spelled_atom x) (spelled_more xs)

-- texts joined from the left, and from the right
abbrev from_left : List ℕ → List (List ℕ) → List ℕ
from_left a [] = a
from_left a (b ∷ bs) = from_left (a ++ b) bs

abbrev from_right : List ℕ → List (List ℕ) → List ℕ
from_right a [] = a
from_right a (b ∷ bs) = a ++ from_right b bs

pulled : (a b : List ℕ) (bs : List (List ℕ)) → from_left (a ++ b) bs ≡ a ++ from_left b bs
pulled a b [] = refl
pulled a b (c ∷ cs) = ap (λ t. from_left t cs) (append_assoc a b c) ∙ pulled a (b ++ c) cs

regrouped : (a : List ℕ) (bs : List (List ℕ)) → from_right a bs ≡ from_left a bs
regrouped a [] = refl
regrouped a (b ∷ bs) = ap (λ t. a ++ t) (regrouped b bs) ∙ sym (pulled a b bs)

spelled_node : (n : ℕ) (x : Node) → spelled (node_pieces (n, x)) ≡ node_line (n, x)
spelled_node n x =
    let marks = both (node_mark_pieces x.mark) line_end _ _ (spelled_node_mark x.mark) refl in
    let label = both (label_pieces x.label) (node_mark_pieces x.mark ++ line_end) _ _ (spelled_label x.label) marks in
    let root = both (root_pieces x.root) (comma ∷ blank 32 ∷ (label_pieces x.label ++ (node_mark_pieces x.mark ++ line_end))) _ _ (spelled_root x.root) (ap (λ t. 44 ∷ 32 ∷ t) label) in
    ap (λ t. 32 ∷ 32 ∷ 40 ∷ 110 ∷ (decimal n ++ t)) root
    ∙ regrouped (codes "  (n") (decimal n ∷ root_text x.root ∷ codes ", " ∷ label_text x.label ∷ node_mark_text x.mark ∷ codes ")\n" ∷ [])

spelled_edge : (i : ℕ) (d : Edge) → spelled (edge_pieces i d) ≡ edge_line i d
spelled_edge i d =
    let marks = both (edge_mark_pieces d.mark) line_end _ _ (spelled_edge_mark d.mark) refl in
    let label = both (label_pieces d.label) (edge_mark_pieces d.mark ++ line_end) _ _ (spelled_label d.label) marks in
    ap (λ t. 32 ∷ 32 ∷ 40 ∷ 101 ∷ (decimal i ++ 44 ∷ 32 ∷ 110 ∷ (decimal d.source ++ 44 ∷ 32 ∷ 110 ∷ (decimal d.target ++ 44 ∷ 32 ∷ t)))) label
    ∙ regrouped (codes "  (e") (decimal i ∷ codes ", n" ∷ decimal d.source ∷ codes ", n" ∷ decimal d.target ∷ codes ", " ∷ label_text d.label ∷ edge_mark_text d.mark ∷ codes ")\n" ∷ [])

spelled_nodes : (ns : List (ℕ × Node)) → spelled (nodes_pieces ns) ≡ flat_map node_line ns
spelled_nodes [] = refl
spelled_nodes ((n, x) ∷ ns) = both (node_pieces (n, x)) (nodes_pieces ns) _ _ (spelled_node n x) (spelled_nodes ns)

spelled_edges : (i : ℕ) (ds : List Edge) → spelled (edges_pieces i ds) ≡ edge_lines i ds
spelled_edges i [] = refl
spelled_edges i (d ∷ ds) = both (edge_pieces i d) (edges_pieces (i + 1) ds) _ _ (spelled_edge i d) (spelled_edges (i + 1) ds)

pub spelled_graph : (ns : List (ℕ × Node)) (ds : List Edge) → spelled (graph_pieces ns ds) ≡ codes "[\n" ++ flat_map node_line ns ++ codes "|\n" ++ edge_lines 0 ds ++ codes "]\n"
spelled_graph ns ds =
    let edges = both (edges_pieces 0 ds) text_end _ _ (spelled_edges 0 ds) refl in
    let nodes = both (nodes_pieces ns) (word k.Bar (codes "|") ∷ blank 10 ∷ (edges_pieces 0 ds ++ text_end)) _ _ (spelled_nodes ns) (ap (λ t. 124 ∷ 10 ∷ t) edges) in
    ap (λ t. 91 ∷ 10 ∷ t) nodes ∙ regrouped (codes "[\n") (flat_map node_line ns ∷ codes "|\n" ∷ edge_lines 0 ds ∷ codes "]\n" ∷ [])
