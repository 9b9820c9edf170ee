-- Labels and marks that were written are read.
use Rattle.std.proofs.Common.{◌≡◌, ℕ, suc, ◌+◌, ◌^◌, ◌<◌, ◌≤◌, true, List, [], ◌∷◌, ◌++◌, length, Option, Some, None, pos, negsuc, codes, decimal, refl, sym, ap, subst, append_assoc, arith}
use Rattle.std.proofs.lemmas.Bool.{le-leb, lt-ltb}
use Rattle.gp_tokens.specs.declared.token.Kind.TheVariants as k
use Rattle.gp_tokens.specs.declared.token.Token.{Token}
use Rattle.gp_tokens.specs.Kinds.{same_kind}
use Rattle.gp_tokens.specs.Numbers.{checked_number}
use Rattle.gp_tokens.proofs.Steps.{token}
use Rattle.gp_tokens.specs.Wants.{meets}
use Rattle.gp_tokens.specs.Shape.{Shape, Is, IsNumberAt, IsString, ◌then◌, Made, Either, Absent, Many, second_of}
use Rattle.gp_tokens.specs.Shape as shape
use Rattle.gp_tokens.specs.Grammar.{shape_of}
use Rattle.gp_tokens.specs.SignWants.{minus, empty, any_word, colon, hash}
use Rattle.gp_values.specs.declared.atom.Atom.{Atom}
use Rattle.gp_values.specs.declared.atom.Atom.TheVariants.{Int, Str}
use Rattle.gp_values.specs.declared.marks.NodeMark.{NodeMark}
use Rattle.gp_values.specs.declared.marks.NodeMark.TheVariants as node_marks
use Rattle.gp_values.specs.declared.marks.EdgeMark.{EdgeMark}
use Rattle.gp_values.specs.declared.marks.EdgeMark.TheVariants as edge_marks
use Rattle.gp_values.specs.Atoms as values
use Rattle.gp_values.specs.Names.{Name}
use Rattle.gp_hostfile.specs.declared.tree.AtomTree.{AtomTree}
use Rattle.gp_hostfile.specs.Grammar.{positive, negative, characters, atom, no_atoms, atom_list, word_of, mark}
use Rattle.gp_hostfile.specs.Host.{atom_of, atoms_of, node_mark, edge_mark}
use Rattle.gp_tokens.proofs.Numerals.{decimal_value}
use Rattle.gp_tokens.proofs.Pieces.{Piece, word}
use Rattle.gp_hostfile.proofs.GraphPieces.{marked, node_mark_pieces, edge_mark_pieces, atom_pieces, more_pieces, label_pieces}
use Rattle.gp_hostfile.proofs.Shows.{Shows, behind_blank, is_shows, then_shows, made_shows, one_shows, other_shows, absent_shows, Match, none_shows, more_shows}

-- ---- atoms

number_read : (n : ℕ) → n ≤ 2 ^ 127 → checked_number (decimal n) ≡ Some n
number_read n small = rw (decimal_value n (omega arith), le-leb n (2 ^ 127) small) refl

number_shows : (n : ℕ) → n ≤ 2 ^ 127 → (rest : List Piece) → Shows IsNumberAt (λ x. x.0 ≡ n) (word k.Number (decimal n) ∷ rest) rest
unfolding meets same_kind
number_shows n small rest at = record {
  until = at + length (decimal n);
  tree = (n, at);
  shape = record { token = token k.Number at (decimal n); is = record { front = refl; is = refl }; value_is = number_read n small; start_is = refl };
  good = refl;
}

string_shows : (s : List ℕ) → values.IsAtom (Str s) → (rest : List Piece) → Shows IsString (λ t. t ≡ s) (word k.String (34 ∷ s ++ 34 ∷ []) ∷ rest) rest
unfolding meets same_kind
string_shows s text rest at = record {
  until = at + length (34 ∷ s ++ 34 ∷ []);
  tree = s;
  shape = record { token = token k.String at (34 ∷ s ++ 34 ∷ []); is = record { front = refl; is = refl }; spelled = refl; text = text };
  good = refl;
}

abbrev pub IsValue : Atom → AtomTree → Type 0
IsValue x a = atom_of a ≡ Some x

positive_is : (n : ℕ) → n < 2 ^ 127 → (x : ℕ × ℕ) → x.0 ≡ n → atom_of (positive x) ≡ Some (Int (pos n))
positive_is n small x e = rw (e, lt-ltb n (2 ^ 127) small) refl

negative_is : (n : ℕ) → suc n ≤ 2 ^ 127 → (x : Token × (ℕ × ℕ)) → x.1.0 ≡ suc n → atom_of (negative x) ≡ Some (Int (negsuc n))
negative_is n small x e = rw (e, le-leb (suc n) (2 ^ 127) small) refl

minus_meets : (at : ℕ) → meets minus (token k.Minus at (codes "-")) ≡ true
unfolding meets same_kind
minus_meets at = refl

colon_meets : (at : ℕ) → meets colon (token k.Colon at (codes ":")) ≡ true
unfolding meets same_kind
colon_meets at = refl

empty_meets : (at : ℕ) → meets empty (token k.Word at (codes "empty")) ≡ true
unfolding meets same_kind
empty_meets at = refl

hash_meets : (at : ℕ) → meets hash (token k.Hash at (codes "#")) ≡ true
unfolding meets same_kind
hash_meets at = refl

word_meets : (text : List ℕ) (at : ℕ) → meets any_word (token k.Word at text) ≡ true
unfolding meets same_kind
word_meets text at = refl

atom_shows : (x : Atom) → values.IsAtom x → (rest : List Piece) → Shows (shape_of atom) (IsValue x) (atom_pieces x ++ rest) rest
unfolding atom
atom_shows (Int (pos n)) h rest =
    let small : n < 2 ^ 127 = h.sfits in
    other_shows _ _ _ _ _ (one_shows _ _ _ _ _ (made_shows positive IsNumberAt _ _ _ _ (positive_is n small) (number_shows n (omega arith) rest)))
atom_shows (Int (negsuc n)) h rest =
    let small : suc n ≤ 2 ^ 127 = h.sfits in
    one_shows _ _ _ _ _ (made_shows negative (Is minus then IsNumberAt) _ _ _ _ (λ x good. negative_is n small x good.1) (then_shows _ _ _ _ _ _ _ (is_shows minus k.Minus (codes "-") _ minus_meets) (number_shows (suc n) small rest)))
atom_shows (Str s) h rest = other_shows _ _ _ _ _ (other_shows _ _ _ _ _ (made_shows characters IsString _ _ _ _ (λ t e. ap (λ s. Some (Str s)) e) (string_shows s h rest)))

-- ---- labels

more_atoms : (xs : List Atom) → values.AreAtoms xs → (rest : List Piece) → Shows (Many (Made second_of (Is colon then shape_of atom))) (Match IsValue xs) (more_pieces xs ++ rest) rest
more_atoms [] h rest = none_shows _ IsValue rest
more_atoms (x ∷ xs) h rest =
    let together = append_assoc (atom_pieces x) (more_pieces xs) rest in
    let first = atom_shows x (h 0 x (omega arith)) (more_pieces xs ++ rest) in
    let this : Shows (Made second_of (Is colon then shape_of atom)) (IsValue x) (word k.Colon (codes ":") ∷ (atom_pieces x ++ (more_pieces xs ++ rest))) (more_pieces xs ++ rest) =
    made_shows second_of (Is colon then shape_of atom) _ _ _ _ (λ p good. good.1) (then_shows _ _ _ _ _ _ _ (is_shows colon k.Colon (codes ":") _ colon_meets) first)
    in
    more_shows _ IsValue x xs _ _ _ (subst (λ ps. Shows (Made second_of (Is colon then shape_of atom)) (IsValue x) (word k.Colon (codes ":") ∷ ps) (more_pieces xs ++ rest)) (sym together) this)
    (more_atoms xs (λ i d lt. h (suc i) d (omega arith)) rest)

values_are : (xs : List Atom) (trees : List AtomTree) → Match IsValue xs trees → atoms_of trees ≡ Some xs
values_are [] [] m = refl
values_are [] (a ∷ trees) m = absurd m
values_are (x ∷ xs) [] m = absurd m
values_are (x ∷ xs) (a ∷ trees) m = rw (m.0, values_are xs trees m.1) refl

pub atoms_show : (v : List Atom) → values.AreAtoms v → (rest : List Piece) → Shows (shape_of atom_list) (λ trees. atoms_of trees ≡ Some v) (label_pieces v ++ rest) rest
unfolding atom_list
atoms_show [] h rest = one_shows _ _ _ _ _ (made_shows no_atoms (Is empty) _ _ _ _ (λ t e. refl) (is_shows empty k.Word (codes "empty") rest empty_meets))
atoms_show (x ∷ xs) h rest =
    let together = append_assoc (atom_pieces x) (more_pieces xs) rest in
    let first = atom_shows x (h 0 x (omega arith)) (more_pieces xs ++ rest) in
    let others = more_atoms xs (λ i d lt. h (suc i) d (omega arith)) rest in
    let all = made_shows shape.list_of _ _ (λ trees. atoms_of trees ≡ Some (x ∷ xs)) _ _ (λ p good. rw (good.0, values_are xs p.1 good.1) refl) (then_shows _ _ _ _ _ _ _ first others) in
    other_shows _ _ _ _ _ (subst (λ ps. Shows (shape.Separated colon (shape_of atom)) (λ trees. atoms_of trees ≡ Some (x ∷ xs)) ps rest) (sym together) all)

-- ---- marks

marked_shows : (name : List ℕ) (P : Option Name → Type 0) → P (Some name) → (rest : List Piece) → Shows (shape_of mark) P (marked name ++ rest) rest
unfolding mark
marked_shows name P h rest =
    behind_blank _ _ _ _ _ (one_shows _ _ _ _ _ (made_shows word_of (Is hash then Is any_word) _ _ _ _ (λ p good. subst (λ w. P (Some w)) (sym good.1) h)
    (then_shows _ _ _ _ _ _ _ (is_shows hash k.Hash (codes "#") _ hash_meets) (behind_blank _ _ _ _ _ (is_shows any_word k.Word name rest (word_meets name))))))

pub node_mark_shows : (m : NodeMark) (rest : List Piece) → Shows (shape_of mark) (λ w. node_mark w ≡ Some m) (node_mark_pieces m ++ rest) rest
unfolding mark
node_mark_shows node_marks.None rest = other_shows _ _ _ _ _ (absent_shows None _ rest refl)
node_mark_shows node_marks.Red rest = marked_shows (codes "red") _ refl rest
node_mark_shows node_marks.Green rest = marked_shows (codes "green") _ refl rest
node_mark_shows node_marks.Blue rest = marked_shows (codes "blue") _ refl rest
node_mark_shows node_marks.Grey rest = marked_shows (codes "grey") _ refl rest

pub edge_mark_shows : (m : EdgeMark) (rest : List Piece) → Shows (shape_of mark) (λ w. edge_mark w ≡ Some m) (edge_mark_pieces m ++ rest) rest
unfolding mark
edge_mark_shows edge_marks.None rest = other_shows _ _ _ _ _ (absent_shows None _ rest refl)
edge_mark_shows edge_marks.Red rest = marked_shows (codes "red") _ refl rest
edge_mark_shows edge_marks.Green rest = marked_shows (codes "green") _ refl rest
edge_mark_shows edge_marks.Blue rest = marked_shows (codes "blue") _ refl rest
edge_mark_shows edge_marks.Dashed rest = marked_shows (codes "dashed") _ refl rest
