-- What stands behind a token of a canonical text makes it no longer.
use Rattle.std.proofs.Common.{◌≡◌, ℕ, Bool, true, false, List, [], ◌∷◌, ◌++◌, refl, sym, ◌∙◌, subst, append_assoc}
use Rattle.std.specs.Prelude.{◌&&◌, ◌||◌, ◌==◌, not, if◌then◌else◌, slice_index, codes}
use Rattle.gp_tokens.specs.declared.token.Kind.TheVariants as k
use Rattle.gp_tokens.specs.Bytes.{is_word_byte}
use Rattle.gp_fmt.specs.declared.piece.Piece.{Piece}
use Rattle.gp_fmt.specs.declared.piece.Piece.TheVariants as p
use Rattle.gp_fmt.specs.Pieces.{text_of}
use Rattle.gp_fmt.specs.Spaces.{joins_next, joins_last, opens, takes_parenthesis, joined, gap, spaced_behind}

-- A byte that goes on with no word and no number, makes no sign longer, and begins no comment behind `/`: none of a word,
-- and none of `=`, `>`, `/` and `*`.
abbrev pub is_end : ℕ → Bool
is_end b = not (is_word_byte b) && (not (b == 61) && (not (b == 62) && (not (b == 47) && not (b == 42))))

abbrev pub Ends : List ℕ → Type 0
Ends behind = is_end (slice_index behind 0) ≡ true

-- a token before which no space stands begins with such a byte
close_ends : (next : Piece) (more : List ℕ) → joins_last next ≡ true → Ends (text_of next ++ more)
close_ends (p.Sign k.CloseParenthesis) more h = refl
close_ends (p.Sign k.CloseBrace) more h = refl
close_ends (p.Sign k.Comma) more h = refl
close_ends (p.Sign k.Semicolon) more h = refl
close_ends (p.Sign k.Exclamation) more h = refl
close_ends (p.Sign k.Colon) more h = refl
close_ends (p.Sign k.Dot) more h = refl
close_ends other more h = absurd cc

open_ends : (next : Piece) (more : List ℕ) → opens next ≡ true → Ends (text_of next ++ more)
open_ends (p.Sign k.OpenParenthesis) more h = refl
open_ends other more h = absurd cc

joined_ends : (a b c d : Bool) (text : List ℕ) → a ≡ false → (b ≡ true → Ends text) → (d ≡ true → Ends text) → (a || b || (c && d)) ≡ true → Ends text
joined_ends true b c d text e close opening h = absurd cc
joined_ends false true c d text e close opening h = close refl
joined_ends false false true true text e close opening h = opening refl
joined_ends false false true false text e close opening h = absurd cc
joined_ends false false false d text e close opening h = absurd cc

next_ends : (one next : Piece) (more : List ℕ) → joins_next one ≡ false → Ends (gap one next ++ (text_of next ++ more))
next_ends one next more apart = go (joined one next) refl
  where
    go : (b : Bool) → joined one next ≡ b → Ends ((if b then [] else codes " ") ++ (text_of next ++ more))
    go true e = joined_ends (joins_next one) (joins_last next) (takes_parenthesis one) (opens next) (text_of next ++ more) apart (close_ends next more) (open_ends next more) e
    go false e = refl

-- what stands behind a token on its line, and then a line feed
pub behind_ends : (one : Piece) (others : List Piece) (rest : List ℕ) → joins_next one ≡ false → Ends (spaced_behind one others ++ 10 ∷ rest)
behind_ends one [] rest apart = refl
behind_ends one (next ∷ others) rest apart =
    let behind = spaced_behind next others ++ 10 ∷ rest in
    let whole : (gap one next ++ text_of next ++ spaced_behind next others) ++ 10 ∷ rest ≡ gap one next ++ (text_of next ++ behind) =
    append_assoc (gap one next ++ text_of next) (spaced_behind next others) (10 ∷ rest) ∙ append_assoc (gap one next) (text_of next) behind in
    subst Ends (sym whole) (next_ends one next behind apart)
