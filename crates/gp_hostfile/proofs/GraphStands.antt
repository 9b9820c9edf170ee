-- The pieces of a graph's text stand for themselves.
use Rattle.std.proofs.Common.{◌≡◌, ℕ, suc, ◌+◌, ◌^◌, ◌<◌, ◌≤◌, Bool, true, false, List, [], ◌∷◌, ◌++◌, length, pos, negsuc, codes, decimal, refl, arith}
use Rattle.std.specs.Prelude.{slice_index}
use Rattle.std.specs.List.{list_all}
use Rattle.std.proofs.lemmas.Bool.{le-leb, ne_eqb}
use Rattle.gp_tokens.specs.declared.token.Kind.TheVariants as k
use Rattle.gp_tokens.specs.Bytes.{is_digit, is_word_byte, is_string_byte}
use Rattle.gp_tokens.specs.Numbers.{number_of}
use Rattle.gp_values.specs.declared.atom.Atom.{Atom}
use Rattle.gp_values.specs.declared.atom.Atom.TheVariants.{Int, Str}
use Rattle.gp_values.specs.declared.marks.NodeMark.{NodeMark}
use Rattle.gp_values.specs.declared.marks.NodeMark.TheVariants as node_marks
use Rattle.gp_values.specs.declared.marks.EdgeMark.{EdgeMark}
use Rattle.gp_values.specs.declared.marks.EdgeMark.TheVariants as edge_marks
use Rattle.gp_values.specs.Atoms.{IsAtom, AreAtoms}
use Rattle.gp_values.specs.Texts.{IsText}
use Rattle.gp_values.specs.Graph.{Node, Edge}
use Rattle.gp_tokens.proofs.Pieces.{Piece, blank, word, spelled, Stands, AllStand, all_stand-append}
use Rattle.gp_tokens.proofs.Stands.{space_stands, feed_stands, sign_stands, open_lone, close_lone, open_bracket_lone, close_bracket_lone, comma_lone, colon_lone, minus_lone, hash_lone, bar_lone, word_stands, number_stands, string_stands}
use Rattle.gp_tokens.proofs.Numerals.{decimal_some, decimal_digits, decimal_value, name_in_word, name_no_number}
use Rattle.gp_hostfile.proofs.GraphPieces.{comma, named, root_pieces, marked, node_mark_pieces, edge_mark_pieces, atom_pieces, more_pieces, label_pieces, line_end, node_pieces, edge_pieces, nodes_pieces, edges_pieces, text_end, graph_pieces}

-- a text that makes no word before it longer
abbrev pub Stops : List ℕ → Type 0
Stops behind = is_word_byte (slice_index behind 0) ≡ false

number_piece : (n : ℕ) → n ≤ 2 ^ 127 → (behind : List ℕ) → Stops behind → Stands (word k.Number (decimal n)) behind
number_piece n small behind stop =
    let short : n < 10 ^ 64 = omega arith in
    let value : number_of (decimal n) ≤ 2 ^ 127 = omega (arith, decimal_value n short) in
    number_stands (decimal n) behind (decimal_some n short) (decimal_digits n short) value stop

named_stands : (letter n : ℕ) → is_word_byte letter ≡ true → is_digit letter ≡ false → n < 10 ^ 64 → (behind : List ℕ) → Stops behind → Stands (named letter n) behind
named_stands letter n inside no_digit small behind stop = word_stands (letter ∷ decimal n) behind (omega arith) (name_in_word n small letter inside) (name_no_number n small letter no_digit) stop

text_bytes : (s : List ℕ) → IsText s → list_all is_string_byte s ≡ true
text_bytes [] h = refl
text_bytes (c ∷ s) h =
    let here = h 0 c (omega arith) in
    let below = text_bytes s (λ i d lt. h (suc i) d (omega arith)) in
    rw (le-leb 32 c here.0, le-leb c 126 here.1, ne_eqb c 34 here.2, below) refl

atom_stands : (x : Atom) → IsAtom x → (behind : List ℕ) → Stops behind → AllStand (atom_pieces x) behind
atom_stands (Int (pos n)) h behind stop = let small : n < 2 ^ 127 = h.sfits in (number_piece n (omega arith) behind stop, tt)
atom_stands (Int (negsuc n)) h behind stop = let small : suc n ≤ 2 ^ 127 = h.sfits in (sign_stands k.Minus 45 minus_lone _, (number_piece (suc n) small behind stop, tt))
atom_stands (Str s) h behind stop = (string_stands s behind (text_bytes s h), tt)

more_stop : (xs : List Atom) (behind : List ℕ) → Stops behind → Stops (spelled (more_pieces xs) ++ behind)
more_stop [] behind stop = stop
more_stop (x ∷ xs) behind stop = refl

more_stand : (xs : List Atom) → AreAtoms xs → (behind : List ℕ) → Stops behind → AllStand (more_pieces xs) behind
more_stand [] h behind stop = tt
more_stand (x ∷ xs) h behind stop = (
  sign_stands k.Colon 58 colon_lone _,
  all_stand-append (atom_pieces x) (more_pieces xs) behind (atom_stands x (h 0 x (omega arith)) _ (more_stop xs behind stop)) (more_stand xs (λ i d lt. h (suc i) d (omega arith)) behind stop),
)

label_stands : (v : List Atom) → AreAtoms v → (behind : List ℕ) → Stops behind → AllStand (label_pieces v) behind
label_stands [] h behind stop = (word_stands (codes "empty") behind (omega arith) refl refl stop, tt)
label_stands (x ∷ xs) h behind stop =
    all_stand-append (atom_pieces x) (more_pieces xs) behind (atom_stands x (h 0 x (omega arith)) _ (more_stop xs behind stop)) (more_stand xs (λ i d lt. h (suc i) d (omega arith)) behind stop)

marked_stands : (name : List ℕ) → 0 < length name → list_all is_word_byte name ≡ true → list_all is_digit name ≡ false → (behind : List ℕ) → Stops behind → AllStand (marked name) behind
marked_stands name some inside no_number behind stop = (space_stands _, (sign_stands k.Hash 35 hash_lone _, (space_stands _, (word_stands name behind some inside no_number stop, tt))))

node_mark_stands : (m : NodeMark) (behind : List ℕ) → Stops behind → AllStand (node_mark_pieces m) behind
node_mark_stands node_marks.None behind stop = tt
node_mark_stands node_marks.Red behind stop = marked_stands (codes "red") (omega arith) refl refl behind stop
node_mark_stands node_marks.Green behind stop = marked_stands (codes "green") (omega arith) refl refl behind stop
node_mark_stands node_marks.Blue behind stop = marked_stands (codes "blue") (omega arith) refl refl behind stop
node_mark_stands node_marks.Grey behind stop = marked_stands (codes "grey") (omega arith) refl refl behind stop

node_mark_stop : (m : NodeMark) (ps : List Piece) (behind : List ℕ) → Stops (spelled ps ++ behind) → Stops (spelled (node_mark_pieces m ++ ps) ++ behind)
node_mark_stop node_marks.None ps behind stop = stop
node_mark_stop node_marks.Red ps behind stop = refl
node_mark_stop node_marks.Green ps behind stop = refl
node_mark_stop node_marks.Blue ps behind stop = refl
node_mark_stop node_marks.Grey ps behind stop = refl

edge_mark_stands : (m : EdgeMark) (behind : List ℕ) → Stops behind → AllStand (edge_mark_pieces m) behind
edge_mark_stands edge_marks.None behind stop = tt
edge_mark_stands edge_marks.Red behind stop = marked_stands (codes "red") (omega arith) refl refl behind stop
edge_mark_stands edge_marks.Green behind stop = marked_stands (codes "green") (omega arith) refl refl behind stop
edge_mark_stands edge_marks.Blue behind stop = marked_stands (codes "blue") (omega arith) refl refl behind stop
edge_mark_stands edge_marks.Dashed behind stop = marked_stands (codes "dashed") (omega arith) refl refl behind stop

edge_mark_stop : (m : EdgeMark) (ps : List Piece) (behind : List ℕ) → Stops (spelled ps ++ behind) → Stops (spelled (edge_mark_pieces m ++ ps) ++ behind)
edge_mark_stop edge_marks.None ps behind stop = stop
edge_mark_stop edge_marks.Red ps behind stop = refl
edge_mark_stop edge_marks.Green ps behind stop = refl
edge_mark_stop edge_marks.Blue ps behind stop = refl
edge_mark_stop edge_marks.Dashed ps behind stop = refl

root_stands : (r : Bool) (behind : List ℕ) → AllStand (root_pieces r) behind
root_stands true behind = (sign_stands k.OpenParenthesis 40 open_lone _, (word_stands (codes "R") (41 ∷ behind) (omega arith) refl refl refl, (sign_stands k.CloseParenthesis 41 close_lone _, tt)))
root_stands false behind = tt

root_stop : (r : Bool) (ps : List Piece) (behind : List ℕ) → Stops (spelled ps ++ behind) → Stops (spelled (root_pieces r ++ ps) ++ behind)
root_stop true ps behind stop = refl
root_stop false ps behind stop = stop

end_stands : (behind : List ℕ) → AllStand line_end behind
end_stands behind = (sign_stands k.CloseParenthesis 41 close_lone _, (feed_stands _, tt))

-- the label, the mark and the end of a line
node_tail : (x : Node) → AreAtoms x.label → (behind : List ℕ) → AllStand (label_pieces x.label ++ (node_mark_pieces x.mark ++ line_end)) behind
node_tail x h behind =
    let marks = all_stand-append (node_mark_pieces x.mark) line_end behind (node_mark_stands x.mark (41 ∷ 10 ∷ behind) refl) (end_stands behind) in
    all_stand-append (label_pieces x.label) (node_mark_pieces x.mark ++ line_end) behind (label_stands x.label h _ (node_mark_stop x.mark line_end behind refl)) marks

edge_tail : (d : Edge) → AreAtoms d.label → (behind : List ℕ) → AllStand (label_pieces d.label ++ (edge_mark_pieces d.mark ++ line_end)) behind
edge_tail d h behind =
    let marks = all_stand-append (edge_mark_pieces d.mark) line_end behind (edge_mark_stands d.mark (41 ∷ 10 ∷ behind) refl) (end_stands behind) in
    all_stand-append (label_pieces d.label) (edge_mark_pieces d.mark ++ line_end) behind (label_stands d.label h _ (edge_mark_stop d.mark line_end behind refl)) marks

node_stands : (n : ℕ) (x : Node) → n < 10 ^ 64 → AreAtoms x.label → (behind : List ℕ) → AllStand (node_pieces (n, x)) behind
node_stands n x small h behind =
    let tail = comma ∷ blank 32 ∷ (label_pieces x.label ++ (node_mark_pieces x.mark ++ line_end)) in
    let after : AllStand tail behind = (sign_stands k.Comma 44 comma_lone _, (space_stands _, node_tail x h behind)) in
    let root = all_stand-append (root_pieces x.root) tail behind (root_stands x.root _) after in
    let name = named_stands 110 n refl refl small (spelled (root_pieces x.root ++ tail) ++ behind) (root_stop x.root tail behind refl) in
    (space_stands _, (space_stands _, (sign_stands k.OpenParenthesis 40 open_lone _, (name, root))))

-- a comma, a blank and the name of a node, before other pieces
node_name_stands : (n : ℕ) → n < 10 ^ 64 → (ps : List Piece) (behind : List ℕ) → Stops (spelled ps ++ behind) → AllStand ps behind → AllStand (comma ∷ blank 32 ∷ named 110 n ∷ ps) behind
node_name_stands n small ps behind stop rest = (sign_stands k.Comma 44 comma_lone _, (space_stands _, (named_stands 110 n refl refl small (spelled ps ++ behind) stop, rest)))

edge_stands : (i : ℕ) (d : Edge) → i < 10 ^ 64 → d.source < 10 ^ 64 → d.target < 10 ^ 64 → AreAtoms d.label → (behind : List ℕ) → AllStand (edge_pieces i d) behind
edge_stands i d a b c h behind =
    let tail = comma ∷ blank 32 ∷ (label_pieces d.label ++ (edge_mark_pieces d.mark ++ line_end)) in
    let after : AllStand tail behind = (sign_stands k.Comma 44 comma_lone _, (space_stands _, edge_tail d h behind)) in
    let target = node_name_stands d.target c tail behind refl after in
    let source = node_name_stands d.source b (comma ∷ blank 32 ∷ named 110 d.target ∷ tail) behind refl target in
    (space_stands _, (space_stands _, (sign_stands k.OpenParenthesis 40 open_lone _, (named_stands 101 i refl refl a _ refl, source))))

-- ---- all lines

-- a node with a number of at most 64 digits
pub record IsShortNode (p : ℕ × Node) : Type 0 where
  pub number : p.0 < 10 ^ 64
  pub label : AreAtoms p.1.label

pub record IsShortEdge (d : Edge) : Type 0 where
  pub source : d.source < 10 ^ 64
  pub target : d.target < 10 ^ 64
  pub label : AreAtoms d.label

abbrev pub Each : {A : Type 0} → (A → Type 0) → List A → Type 0
Each P [] = Unit {0}
Each P (x ∷ xs) = P x × Each P xs

nodes_stand : (ns : List (ℕ × Node)) → Each IsShortNode ns → (behind : List ℕ) → AllStand (nodes_pieces ns) behind
nodes_stand [] h behind = tt
nodes_stand ((n, x) ∷ ns) h behind = all_stand-append (node_pieces (n, x)) (nodes_pieces ns) behind (node_stands n x h.0.number h.0.label _) (nodes_stand ns h.1 behind)

edges_stand : (i : ℕ) (ds : List Edge) → i + length ds ≤ 10 ^ 64 → Each IsShortEdge ds → (behind : List ℕ) → AllStand (edges_pieces i ds) behind
edges_stand i [] few h behind = tt
edges_stand i (d ∷ ds) few h behind =
    all_stand-append (edge_pieces i d) (edges_pieces (i + 1) ds) behind (edge_stands i d (omega arith) h.0.source h.0.target h.0.label _) (edges_stand (i + 1) ds (omega arith) h.1 behind)

pub graph_stands : (ns : List (ℕ × Node)) (ds : List Edge) → Each IsShortNode ns → length ds ≤ 10 ^ 64 → Each IsShortEdge ds → AllStand (graph_pieces ns ds) []
graph_stands ns ds a few b =
    let last : AllStand text_end [] = (sign_stands k.CloseBracket 93 close_bracket_lone _, (feed_stands _, tt)) in
    let edges = all_stand-append (edges_pieces 0 ds) text_end [] (edges_stand 0 ds (omega arith) b _) last in
    let lines : AllStand (word k.Bar (codes "|") ∷ blank 10 ∷ (edges_pieces 0 ds ++ text_end)) [] = (sign_stands k.Bar 124 bar_lone _, (feed_stands _, edges)) in
    (sign_stands k.OpenBracket 91 open_bracket_lone _, (feed_stands _, all_stand-append (nodes_pieces ns) (word k.Bar (codes "|") ∷ blank 10 ∷ (edges_pieces 0 ds ++ text_end)) [] (nodes_stand ns a _) lines))
