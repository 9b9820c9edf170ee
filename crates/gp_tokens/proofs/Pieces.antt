-- Texts cut into pieces: the tokens of such a text are those of its pieces.
use Rattle.std.proofs.Common.{◌≡◌, ℕ, ◌+◌, ◌<◌, List, [], ◌∷◌, ◌++◌, length, take, drop, Ok, refl, sym, ap, ◌∙◌, append_assoc, arith, length-append}
use Rattle.std.proofs.Math.Seq.{take-append_seam, drop-append_seam}
use Rattle.std.proofs.lemmas.List.{append-nil}
use Rattle.gp_tokens.specs.declared.front.First.TheVariants as f
use Rattle.gp_tokens.specs.declared.token.Kind.{Kind}
use Rattle.gp_tokens.specs.declared.token.Token.{Token}
use Rattle.gp_tokens.specs.Front.{front}
use Rattle.gp_tokens.specs.Lexed.{with_front, lexed, tokens_of}
use Rattle.gp_tokens.proofs.Steps.{token, skip_on, token_on}

-- one blank, or the text of one token
pub data Piece : Type 0 where
  blank : ℕ → Piece
  word : Kind → List ℕ → Piece

abbrev pub text_of : Piece → List ℕ
text_of (blank b) = b ∷ []
text_of (word kind text) = text

abbrev pub spelled : List Piece → List ℕ
spelled [] = []
spelled (p ∷ ps) = text_of p ++ spelled ps

-- the tokens of pieces that begin at this offset
abbrev pub tokens_at : ℕ → List Piece → List Token
tokens_at at [] = []
tokens_at at (blank b ∷ ps) = tokens_at (at + 1) ps
tokens_at at (word kind text ∷ ps) = token kind at text ∷ tokens_at (at + length text) ps

-- what stands at the front of a text that begins with the piece is the piece
abbrev pub Stands : Piece → List ℕ → Type 0
Stands (blank b) behind = (at : ℕ) → front at (b ∷ behind) ≡ f.Skip 1
Stands (word kind text) behind = (0 < length text) × ((at : ℕ) → front at (text ++ behind) ≡ f.Token kind (length text))

-- each of the pieces does, where this text comes behind them
abbrev pub AllStand : List Piece → List ℕ → Type 0
AllStand [] behind = Unit {0}
AllStand (p ∷ ps) behind = Stands p (spelled ps ++ behind) × AllStand ps behind

pub spelled-append : (ps qs : List Piece) → spelled (ps ++ qs) ≡ spelled ps ++ spelled qs
spelled-append [] qs = refl
spelled-append (p ∷ ps) qs = ap (λ t. text_of p ++ t) (spelled-append ps qs) ∙ sym (append_assoc (text_of p) (spelled ps) (spelled qs))

pub all_stand-append : (ps qs : List Piece) (behind : List ℕ) → AllStand ps (spelled qs ++ behind) → AllStand qs behind → AllStand (ps ++ qs) behind
all_stand-append [] qs behind a b = b
all_stand-append (p ∷ ps) qs behind a b =
    let e : spelled ps ++ (spelled qs ++ behind) ≡ spelled (ps ++ qs) ++ behind = sym (append_assoc (spelled ps) (spelled qs) behind) ∙ ap (λ t. t ++ behind) (sym (spelled-append ps qs)) in
    (rw e at a.0, all_stand-append ps qs behind a.1 b)

lexed_pieces : (at : ℕ) (ps : List Piece) → AllStand ps [] → lexed 0 at (spelled ps) ≡ Ok (tokens_at at ps)
lexed_pieces at [] s = refl
lexed_pieces at (blank b ∷ ps) s =
    let e : spelled ps ++ [] ≡ spelled ps = append-nil (spelled ps) in
    skip_on at 1 (b ∷ spelled ps) (omega arith) (omega arith) (sym (rw e at s.0 at)) ∙ lexed_pieces (at + 1) ps s.1
lexed_pieces at (word kind text ∷ ps) s =
    let e : spelled ps ++ [] ≡ spelled ps = append-nil (spelled ps) in
    let size : length (text ++ spelled ps) ≡ length text + length (spelled ps) = length-append text (spelled ps) in
    let some = s.0.0 in
    let here = token_on at (length text) kind (text ++ spelled ps) (omega arith) s.0.0 (sym (rw e at s.0.1 at)) in
    let taken : take (length text) (text ++ spelled ps) ≡ text = take-append_seam text (spelled ps) in
    let left : drop (length text) (text ++ spelled ps) ≡ spelled ps = drop-append_seam text (spelled ps) in
    here ∙ rw (taken, left) (ap (with_front (token kind at text ∷ [])) (lexed_pieces (at + length text) ps s.1))

-- the tokens of the text that pieces spell
pub tokens_of_pieces : (ps : List Piece) → AllStand ps [] → tokens_of (spelled ps) ≡ Ok (tokens_at 0 ps)
tokens_of_pieces ps s = lexed_pieces 0 ps s
