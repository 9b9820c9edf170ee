-- A text of well-spelled tokens, with the spaces of a canonical text between them, is cut into them.
use Rattle.std.proofs.Common.{◌≡◌, ℕ, ◌+◌, Bool, true, false, List, [], ◌∷◌, ◌++◌, length, take, drop, Ok, refl, sym, ap, subst, ◌∙◌, append_assoc, arith, length-append}
use Rattle.std.specs.Prelude.{if◌then◌else◌, codes, All}
use Rattle.std.specs.List.{flat_map}
use Rattle.std.proofs.Math.Seq.{take-append_seam, drop-append_seam}
use Rattle.std.proofs.lemmas.List.Elements.{All-nil, All-cons, All-head, All-tail}
use Rattle.gp_tokens.specs.declared.token.Token.{Token}
use Rattle.gp_tokens.specs.Lexed.{with_front, lexed}
use Rattle.gp_tokens.proofs.Pieces.{blank, word, Stands}
use Rattle.gp_tokens.proofs.Stands.{space_stands, feed_stands}
use Rattle.gp_tokens.proofs.Steps.{token, skip_on, token_on}
use Rattle.gp_syntax.specs.declared.tree.Decl.{Decl}
use Rattle.gp_fmt.specs.declared.piece.Piece.{Piece}
use Rattle.gp_fmt.specs.Pieces.{text_of, kind_of, AreTokens, none, next}
use Rattle.gp_fmt.specs.Spaces.{joined, gap, spaced_behind, spaced}
use Rattle.gp_fmt.specs.Canonical.{declaration, line}
use Rattle.gp_fmt.specs.inside.Spelled.{IsWellSpelled}
use Rattle.gp_fmt.proofs.Cut.Behind.{behind_ends}
use Rattle.gp_fmt.proofs.Cut.Standing.{piece_stands}

-- the tokens of a text that begins at this offset are these
abbrev pub IsCut : List Piece → List ℕ → ℕ → Type 0
IsCut ps text at = (ts : List Token) × (lexed 0 at text ≡ Ok ts) × AreTokens ps ts

blank_first : (b : ℕ) (text : List ℕ) (ps : List Piece) → Stands (blank b) text → ((at : ℕ) → IsCut ps text at) → (at : ℕ) → IsCut ps (b ∷ text) at
blank_first b text ps stands below at =
    let c = below (at + 1) in
    (c.0, skip_on at 1 (b ∷ text) (omega arith) (omega arith) (sym (stands at)) ∙ c.1, c.2)

token_first : (x : Piece) (behind : List ℕ) (ps : List Piece) → Stands (word (kind_of x) (text_of x)) behind → ((at : ℕ) → IsCut ps behind at) → (at : ℕ) → IsCut (x ∷ ps) (text_of x ++ behind) at
token_first x behind ps stands below at =
    let c = below (at + length (text_of x)) in
    let some = stands.0 in
    let size : length (text_of x ++ behind) ≡ length (text_of x) + length behind = length-append (text_of x) behind in
    let here = token_on at (length (text_of x)) (kind_of x) (text_of x ++ behind) (omega arith) stands.0 (sym (stands.1 at)) in
    let taken : take (length (text_of x)) (text_of x ++ behind) ≡ text_of x = take-append_seam (text_of x) behind in
    let left : drop (length (text_of x)) (text_of x ++ behind) ≡ behind = drop-append_seam (text_of x) behind in
    (token (kind_of x) at (text_of x) ∷ c.0, here ∙ rw (taken, left) (ap (with_front (token (kind_of x) at (text_of x) ∷ [])) c.1), next x at c.2)

gap_first : (one x : Piece) (text : List ℕ) (ps : List Piece) → ((at : ℕ) → IsCut ps text at) → (at : ℕ) → IsCut ps (gap one x ++ text) at
gap_first one x text ps below = go (joined one x)
  where
    go : (b : Bool) (at : ℕ) → IsCut ps ((if b then [] else codes " ") ++ text) at
    go true = below
    go false = blank_first 32 text ps (space_stands text) below

module _ (rest : List ℕ) (ps : List Piece) (below : (at : ℕ) → IsCut ps rest at) where
  behind_first : (one : Piece) (others : List Piece) → All IsWellSpelled others → (at : ℕ) → IsCut (others ++ ps) (spaced_behind one others ++ 10 ∷ rest) at
  behind_first one [] h at = blank_first 10 rest ps (feed_stands rest) below at
  behind_first one (x ∷ others) h at =
      let behind = spaced_behind x others ++ 10 ∷ rest in
      let whole : (gap one x ++ text_of x ++ spaced_behind x others) ++ 10 ∷ rest ≡ gap one x ++ (text_of x ++ behind) =
      append_assoc (gap one x ++ text_of x) (spaced_behind x others) (10 ∷ rest) ∙ append_assoc (gap one x) (text_of x) behind in
      let stands = piece_stands x (All-head IsWellSpelled x others h) behind (behind_ends x others rest) in
      subst (λ (t : List ℕ). IsCut (x ∷ others ++ ps) t at) (sym whole)
      (gap_first one x (text_of x ++ behind) (x ∷ others ++ ps) (token_first x behind (others ++ ps) stands (behind_first x others (All-tail IsWellSpelled x others h))) at)

  line_first : (xs : List Piece) → All IsWellSpelled xs → (at : ℕ) → IsCut (xs ++ ps) (spaced xs ++ 10 ∷ rest) at
  line_first [] h at = blank_first 10 rest ps (feed_stands rest) below at
  line_first (x ∷ others) h at =
      let behind = spaced_behind x others ++ 10 ∷ rest in
      let stands = piece_stands x (All-head IsWellSpelled x others h) behind (behind_ends x others rest) in
      subst (λ (t : List ℕ). IsCut (x ∷ others ++ ps) t at) (sym (append_assoc (text_of x) (spaced_behind x others) (10 ∷ rest)))
      (token_first x behind (others ++ ps) stands (behind_first x others (All-tail IsWellSpelled x others h)) at)

-- ---- all lines

all_front : (xs ys : List Piece) → All IsWellSpelled (xs ++ ys) → All IsWellSpelled xs
all_front [] ys h = All-nil IsWellSpelled
all_front (x ∷ xs) ys h = All-cons IsWellSpelled x xs (All-head IsWellSpelled x (xs ++ ys) h) (all_front xs ys (All-tail IsWellSpelled x (xs ++ ys) h))

all_back : (xs ys : List Piece) → All IsWellSpelled (xs ++ ys) → All IsWellSpelled ys
all_back [] ys h = h
all_back (x ∷ xs) ys h = all_back xs ys (All-tail IsWellSpelled x (xs ++ ys) h)

pub lines_cut : (ds : List Decl) → All IsWellSpelled (flat_map declaration ds) → (at : ℕ) → IsCut (flat_map declaration ds) (flat_map line ds) at
lines_cut [] h at = ([], refl, none)
lines_cut (d ∷ ds) h at =
    let xs = declaration d in
    let ps = flat_map declaration ds in
    let rest = flat_map line ds in
    subst (λ (t : List ℕ). IsCut (xs ++ ps) t at) (sym (append_assoc (spaced xs) (codes "\n") rest))
    (line_first rest ps (lines_cut ds (all_back xs ps h)) xs (all_front xs ps h) at)
