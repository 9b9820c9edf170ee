-- Lines of nodes and edges that were written are read.
use Rattle.std.proofs.Common.{◌≡◌, ℕ, ◌+◌, ◌^◌, ◌<◌, ◌≤◌, Bool, true, false, List, [], ◌∷◌, ◌++◌, length, Some, codes, decimal, refl, sym, ap, subst, ◌∙◌, append_assoc, arith}
use Rattle.gp_tokens.specs.declared.token.Kind.TheVariants as k
use Rattle.gp_tokens.specs.Kinds.{same_kind}
use Rattle.gp_tokens.proofs.Steps.{token}
use Rattle.gp_tokens.specs.declared.want.Want.TheVariants as wants
use Rattle.gp_tokens.specs.Wants.{meets}
use Rattle.gp_tokens.specs.Shape.{Is, ◌then◌, Many, second_of}
use Rattle.gp_tokens.specs.Grammar.{shape_of}
use Rattle.gp_tokens.specs.SignWants as signs
use Rattle.gp_tokens.specs.SignWants.{root_word, open_bracket, close_bracket}
use Rattle.gp_values.specs.Atoms.{AreAtoms}
use Rattle.gp_values.specs.Graph.{Node, Edge}
use Rattle.gp_hostfile.specs.declared.tree.NodeTree.{NodeTree}
use Rattle.gp_hostfile.specs.declared.tree.EdgeTree.{EdgeTree}
use Rattle.gp_hostfile.specs.Grammar.{label, place, rooted, root, node_of, node, nodes, edge_of, edge, edges, HostTree, body, barred, tree_of, host, IsHostShape}
use Rattle.gp_hostfile.specs.Host.{atoms_of, node_mark, edge_mark}
use Rattle.gp_tokens.proofs.Numerals.{name_is_free}
use Rattle.gp_tokens.proofs.Pieces.{Piece, blank}
use Rattle.gp_hostfile.proofs.GraphPieces.{open_sign, close_sign, comma, named, root_pieces, node_mark_pieces, edge_mark_pieces, label_pieces, line_end, node_pieces, edge_pieces, nodes_pieces, edges_pieces, text_end, graph_pieces}
use Rattle.gp_hostfile.proofs.GraphStands.{Each, IsShortNode, IsShortEdge}
use Rattle.gp_hostfile.proofs.NumberedMaps.{numbered_on}
use Rattle.gp_hostfile.proofs.Shows.{Shows, behind_blank, before_blank, is_shows, then_shows, made_shows, one_shows, other_shows, absent_shows, Match, none_shows, more_shows}
use Rattle.gp_hostfile.proofs.ReadLabels.{atoms_show, node_mark_shows, edge_mark_shows}

open_meets : (at : ℕ) → meets signs.open_sign (token k.OpenParenthesis at (codes "(")) ≡ true
unfolding meets same_kind
open_meets at = refl

close_meets : (at : ℕ) → meets signs.close_sign (token k.CloseParenthesis at (codes ")")) ≡ true
unfolding meets same_kind
close_meets at = refl

comma_meets : (at : ℕ) → meets signs.comma (token k.Comma at (codes ",")) ≡ true
unfolding meets same_kind
comma_meets at = refl

bar_meets : (at : ℕ) → meets signs.bar (token k.Bar at (codes "|")) ≡ true
unfolding meets same_kind
bar_meets at = refl

open_bracket_meets : (at : ℕ) → meets open_bracket (token k.OpenBracket at (codes "[")) ≡ true
unfolding meets same_kind
open_bracket_meets at = refl

close_bracket_meets : (at : ℕ) → meets close_bracket (token k.CloseBracket at (codes "]")) ≡ true
unfolding meets same_kind
close_bracket_meets at = refl

root_meets : (at : ℕ) → meets root_word (token k.Word at (codes "R")) ≡ true
unfolding meets same_kind
root_meets at = refl

name_meets : (letter n : ℕ) → n < 10 ^ 64 → (at : ℕ) → meets wants.Item (token k.Word at (letter ∷ decimal n)) ≡ true
unfolding meets same_kind
name_meets letter n small at = rw (name_is_free letter n small) refl

name_shows : (letter n : ℕ) → n < 10 ^ 64 → (rest : List Piece) → Shows (Is wants.Item) (λ t. t.text ≡ letter ∷ decimal n) (named letter n ∷ rest) rest
name_shows letter n small rest = is_shows wants.Item k.Word (letter ∷ decimal n) rest (name_meets letter n small)

open_shows : (rest : List Piece) → Shows (Is signs.open_sign) (λ t. t.text ≡ codes "(") (open_sign ∷ rest) rest
open_shows rest = is_shows signs.open_sign k.OpenParenthesis (codes "(") rest open_meets

-- a comma and the blank behind it
comma_shows : (rest : List Piece) → Shows (Is signs.comma) (λ t. t.text ≡ codes ",") (comma ∷ blank 32 ∷ rest) rest
comma_shows rest = before_blank _ _ 32 _ rest (is_shows signs.comma k.Comma (codes ",") (blank 32 ∷ rest) comma_meets)

end_shows : (rest : List Piece) → Shows (Is signs.close_sign) (λ t. t.text ≡ codes ")") (close_sign ∷ blank 10 ∷ rest) rest
end_shows rest = before_blank _ _ 10 _ rest (is_shows signs.close_sign k.CloseParenthesis (codes ")") (blank 10 ∷ rest) close_meets)

root_shows : (r : Bool) (rest : List Piece) → Shows (shape_of root) (λ b. b ≡ r) (root_pieces r ++ rest) rest
unfolding root
root_shows true rest =
    one_shows _ _ _ _ _ (made_shows rooted (Is signs.open_sign then Is root_word then Is signs.close_sign) _ _ _ _ (λ p good. refl)
    (then_shows _ _ _ _ _ _ _ (open_shows _) (then_shows _ _ _ _ _ _ _ (is_shows root_word k.Word (codes "R") _ root_meets) (is_shows signs.close_sign k.CloseParenthesis (codes ")") rest close_meets))))
root_shows false rest = other_shows _ _ _ _ _ (absent_shows false _ rest refl)

-- ---- nodes

-- the tree of a node's line
pub record IsNodeTree (p : ℕ × Node) (n : NodeTree) : Type 0 where
  pub name : n.name ≡ 110 ∷ decimal p.0
  pub root : n.root ≡ p.1.root
  pub label : atoms_of n.label ≡ Some p.1.label
  pub mark : node_mark n.mark ≡ Some p.1.mark

node_shows : (n : ℕ) (x : Node) → n < 10 ^ 64 → AreAtoms x.label → (rest : List Piece) → Shows (shape_of node) (IsNodeTree (n, x)) (node_pieces (n, x) ++ rest) rest
unfolding node label place
node_shows n x small atoms rest =
    let marks : List Piece = node_mark_pieces x.mark ++ (close_sign ∷ blank 10 ∷ rest) in
    let tail : List Piece = comma ∷ blank 32 ∷ (label_pieces x.label ++ marks) in
    let grouped : node_pieces (n, x) ++ rest ≡ blank 32 ∷ blank 32 ∷ open_sign ∷ named 110 n ∷ (root_pieces x.root ++ tail) =
    ap (λ t. blank 32 ∷ blank 32 ∷ open_sign ∷ named 110 n ∷ t) (append_assoc (root_pieces x.root) _ rest
    ∙ ap (λ t. root_pieces x.root ++ comma ∷ blank 32 ∷ t) (append_assoc (label_pieces x.label) _ rest ∙ ap (λ t. label_pieces x.label ++ t) (append_assoc (node_mark_pieces x.mark) line_end rest)))
    in
    let last = then_shows (shape_of place) (Is signs.close_sign) (λ u. Unit {0}) _ _ _ _ (other_shows _ _ _ _ _ (absent_shows (tt {0}) _ (close_sign ∷ blank 10 ∷ rest) tt)) (end_shows rest) in
    let labelled = then_shows (shape_of label) _ _ _ _ _ _ (then_shows _ _ _ _ _ _ _ (atoms_show x.label atoms marks) (node_mark_shows x.mark (close_sign ∷ blank 10 ∷ rest))) last in
    let line = then_shows _ _ _ _ _ _ _ (open_shows _) (then_shows _ _ _ _ _ _ _ (name_shows 110 n small _) (then_shows _ _ _ _ _ _ _ (root_shows x.root tail) (then_shows _ _ _ _ _ _ _ (comma_shows _) labelled))) in
    let whole : Shows (shape_of node) (IsNodeTree (n, x)) (open_sign ∷ named 110 n ∷ (root_pieces x.root ++ tail)) rest =
    made_shows node_of _ _ (IsNodeTree (n, x)) _ _ (λ p good. record { name = good.1.0; root = good.1.1.0; label = good.1.1.1.1.0.0; mark = good.1.1.1.1.0.1 }) line
    in
    subst (λ ps. Shows (shape_of node) (IsNodeTree (n, x)) ps rest) (sym grouped) (behind_blank _ _ _ _ _ (behind_blank _ _ _ _ _ whole))

-- ---- edges

-- the tree of an edge's line, by the number of the line
pub record IsEdgeTree (p : ℕ × Edge) (e : EdgeTree) : Type 0 where
  pub name : e.name ≡ 101 ∷ decimal p.0
  pub source : e.source ≡ 110 ∷ decimal p.1.source
  pub target : e.target ≡ 110 ∷ decimal p.1.target
  pub label : atoms_of e.label ≡ Some p.1.label
  pub mark : edge_mark e.mark ≡ Some p.1.mark

edge_shows : (i : ℕ) (d : Edge) → i < 10 ^ 64 → d.source < 10 ^ 64 → d.target < 10 ^ 64 → AreAtoms d.label → (rest : List Piece) → Shows (shape_of edge) (IsEdgeTree (i, d)) (edge_pieces i d ++ rest) rest
unfolding edge label
edge_shows i d small source target atoms rest =
    let marks : List Piece = edge_mark_pieces d.mark ++ (close_sign ∷ blank 10 ∷ rest) in
    let tail : List Piece = label_pieces d.label ++ marks in
    let front : List Piece → List Piece =
    λ t. blank 32 ∷ blank 32 ∷ open_sign ∷ named 101 i ∷ comma ∷ blank 32 ∷ named 110 d.source ∷ comma ∷ blank 32 ∷ named 110 d.target ∷ comma ∷ blank 32 ∷ t
    in
    let grouped : edge_pieces i d ++ rest ≡ front tail = ap front (append_assoc (label_pieces d.label) _ rest ∙ ap (λ t. label_pieces d.label ++ t) (append_assoc (edge_mark_pieces d.mark) line_end rest)) in
    let labelled = then_shows (shape_of label) _ _ _ _ _ _ (then_shows _ _ _ _ _ _ _ (atoms_show d.label atoms marks) (edge_mark_shows d.mark (close_sign ∷ blank 10 ∷ rest))) (end_shows rest) in
    let ends =
    then_shows _ _ _ _ _ _ _ (name_shows 110 d.source source _)
    (then_shows _ _ _ _ _ _ _ (comma_shows _) (then_shows _ _ _ _ _ _ _ (name_shows 110 d.target target _) (then_shows _ _ _ _ _ _ _ (comma_shows tail) labelled)))
    in
    let line = then_shows _ _ _ _ _ _ _ (open_shows _) (then_shows _ _ _ _ _ _ _ (name_shows 101 i small _) (then_shows _ _ _ _ _ _ _ (comma_shows _) ends)) in
    let whole : Shows (shape_of edge) (IsEdgeTree (i, d)) (open_sign ∷ named 101 i ∷ comma ∷ blank 32 ∷ named 110 d.source ∷ comma ∷ blank 32 ∷ named 110 d.target ∷ comma ∷ blank 32 ∷ tail) rest =
    made_shows edge_of _ _ (IsEdgeTree (i, d)) _ _
    (λ p good. record { name = good.1.0; source = good.1.1.1.0; target = good.1.1.1.1.1.0; label = good.1.1.1.1.1.1.1.0.0; mark = good.1.1.1.1.1.1.1.0.1 }) line
    in
    subst (λ ps. Shows (shape_of edge) (IsEdgeTree (i, d)) ps rest) (sym grouped) (behind_blank _ _ _ _ _ (behind_blank _ _ _ _ _ whole))

-- ---- all lines

nodes_show : (ns : List (ℕ × Node)) → Each IsShortNode ns → (rest : List Piece) → Shows (Many (shape_of node)) (Match IsNodeTree ns) (nodes_pieces ns ++ rest) rest
nodes_show [] h rest = none_shows (shape_of node) IsNodeTree rest
nodes_show ((n, x) ∷ ns) h rest =
    let grouped = append_assoc (node_pieces (n, x)) (nodes_pieces ns) rest in
    subst (λ ps. Shows (Many (shape_of node)) (Match IsNodeTree ((n, x) ∷ ns)) ps rest) (sym grouped)
    (more_shows (shape_of node) IsNodeTree (n, x) ns _ _ _ (node_shows n x h.0.number h.0.label (nodes_pieces ns ++ rest)) (nodes_show ns h.1 rest))

edges_show : (i : ℕ) (ds : List Edge) → i + length ds ≤ 10 ^ 64 → Each IsShortEdge ds → (rest : List Piece) → Shows (Many (shape_of edge)) (Match IsEdgeTree (numbered_on i ds)) (edges_pieces i ds ++ rest) rest
edges_show i [] few h rest = none_shows (shape_of edge) IsEdgeTree rest
edges_show i (d ∷ ds) few h rest =
    let grouped = append_assoc (edge_pieces i d) (edges_pieces (i + 1) ds) rest in
    subst (λ ps. Shows (Many (shape_of edge)) (Match IsEdgeTree (numbered_on i (d ∷ ds))) ps rest) (sym grouped)
    (more_shows (shape_of edge) IsEdgeTree (i, d) (numbered_on (i + 1) ds) _ _ _ (edge_shows i d (omega arith) h.0.source h.0.target h.0.label (edges_pieces (i + 1) ds ++ rest)) (edges_show (i + 1) ds (omega arith) h.1 rest))

-- the tree of a graph's text
pub record IsTreeOf (ns : List (ℕ × Node)) (ds : List Edge) (t : HostTree) : Type 0 where
  pub nodes : Match IsNodeTree ns t.0
  pub edges : Match IsEdgeTree (numbered_on 0 ds) t.1

pub graph_shows : (ns : List (ℕ × Node)) (ds : List Edge) → Each IsShortNode ns → length ds ≤ 10 ^ 64 → Each IsShortEdge ds → Shows IsHostShape (IsTreeOf ns ds) (graph_pieces ns ds) []
unfolding host barred body nodes edges
graph_shows ns ds a few b =
    let last = before_blank _ _ 10 _ [] (is_shows close_bracket k.CloseBracket (codes "]") (blank 10 ∷ []) close_bracket_meets) in
    let edge_lines = then_shows _ _ _ _ _ _ _ (behind_blank _ _ 10 _ _ (edges_show 0 ds (omega arith) b text_end)) last in
    let bar = then_shows _ _ _ _ _ _ _ (is_shows signs.bar k.Bar (codes "|") _ bar_meets) edge_lines in
    let lines = then_shows _ _ _ _ _ _ _ (behind_blank _ _ 10 _ _ (nodes_show ns a _)) bar in
    let whole = made_shows tree_of _ _ (IsTreeOf ns ds) _ _ (λ p good. record { nodes = good.0; edges = good.1.1.0 }) lines in
    made_shows second_of _ _ (IsTreeOf ns ds) _ _ (λ p good. good.1) (then_shows _ _ _ _ _ _ _ (is_shows open_bracket k.OpenBracket (codes "[") _ open_bracket_meets) (other_shows _ (shape_of body) _ _ _ whole))
