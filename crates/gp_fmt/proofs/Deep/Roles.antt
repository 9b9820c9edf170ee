-- The roles of tokens, by what they are wanted as, and of the tokens of a canonical text.
use Rattle.std.proofs.Common.{◌≡◌, ℕ, Bool, true, false, not, ◌&&◌, ◌||◌, List, [], ◌∷◌, ◌++◌, map, refl, sym, ◌∙◌, ap}
use Rattle.std.specs.Str.{bytes_eq}
use Rattle.std.proofs.lemmas.List.{map-append}
use Rattle.gp_memory.proofs.Basics.{both, or_right as or_second}
use Rattle.gp_tokens.specs.declared.keyword.Keyword.{Keyword}
use Rattle.gp_tokens.specs.declared.keyword.Keyword.TheVariants as words
use Rattle.gp_tokens.specs.declared.token.Kind.{Kind}
use Rattle.gp_tokens.specs.declared.token.Kind.TheVariants as k
use Rattle.gp_tokens.specs.declared.token.Token.{Token}
use Rattle.gp_tokens.specs.Kinds.{same_kind}
use Rattle.gp_tokens.specs.Words.{keyword_text, is_word, is_free_word, is_reserved}
use Rattle.gp_tokens.specs.declared.want.Want.{Want}
use Rattle.gp_tokens.specs.declared.want.Want.TheVariants as wants
use Rattle.gp_tokens.specs.Wants.{meets}
use Rattle.gp_tokens.specs.Fits.{AllExcluded}
use Rattle.gp_tokens.specs.SignWants.{open_sign, close_sign, open_bracket, close_bracket, open_brace, close_brace, minus, any_word}
use Rattle.gp_tokens.proofs.Wants.{kind_true, excluded}
use Rattle.gp_expressions.specs.Signs.{not_word}
use Rattle.gp_program.specs.declared.depth.Role.{Role}
use Rattle.gp_program.specs.declared.depth.Role.TheVariants as role
use Rattle.gp_program.specs.Depth.{role_by, role_of}
use Rattle.gp_fmt.specs.declared.piece.Piece.{Piece}
use Rattle.gp_fmt.specs.declared.piece.Piece.TheVariants as p
use Rattle.gp_fmt.specs.Pieces.{kind_of, text_of, AreTokens, none, next}
use Rattle.gp_fmt.specs.inside.Spelled.{IsSpelledAs, IsSpelledToken}

-- ---- tokens

-- what opens, what closes, and what makes a run
abbrev pub loud : List Want
loud = open_sign ∷ open_bracket ∷ open_brace ∷ close_sign ∷ close_bracket ∷ close_brace ∷ minus ∷ not_word ∷ []

by_kind : (kind : Kind) (n : Bool) → same_kind kind k.OpenParenthesis ≡ false → same_kind kind k.OpenBracket ≡ false → same_kind kind k.OpenBrace ≡ false → same_kind kind k.CloseParenthesis ≡ false
    → same_kind kind k.CloseBracket ≡ false → same_kind kind k.CloseBrace ≡ false → same_kind kind k.Minus ≡ false → n ≡ false → role_by kind n ≡ role.Other
unfolding same_kind
by_kind k.OpenParenthesis n a b c d e f g h = absurd cc
by_kind k.OpenBracket n a b c d e f g h = absurd cc
by_kind k.OpenBrace n a b c d e f g h = absurd cc
by_kind k.CloseParenthesis n a b c d e f g h = absurd cc
by_kind k.CloseBracket n a b c d e f g h = absurd cc
by_kind k.CloseBrace n a b c d e f g h = absurd cc
by_kind k.Minus n a b c d e f g h = absurd cc
by_kind other n a b c d e f g h = rw h refl

pub other_role : (w : Want) (t : Token) → AllExcluded w loud → meets w t ≡ true → role_of t ≡ role.Other
unfolding meets role_of
other_role w t e m =
    by_kind t.kind (is_word words.Not t) (excluded w open_sign t e.0 m) (excluded w open_bracket t e.1.0 m) (excluded w open_brace t e.1.1.0 m) (excluded w close_sign t e.1.1.1.0 m)
    (excluded w close_bracket t e.1.1.1.1.0 m) (excluded w close_brace t e.1.1.1.1.1.0 m) (excluded w minus t e.1.1.1.1.1.1.0 m) (excluded w not_word t e.1.1.1.1.1.1.1.0 m)

-- by its kind alone
pub sign_role : (kind : Kind) (r : Role) (t : Token) → ((n : Bool) → role_by kind n ≡ r) → meets (wants.Kind kind) t ≡ true → role_of t ≡ r
unfolding meets role_of
sign_role kind r t all m = ap (λ x. role_by x (is_word words.Not t)) (kind_true t.kind kind m) ∙ all (is_word words.Not t)

pub not_role : (t : Token) → meets not_word t ≡ true → role_of t ≡ role.Not
unfolding meets role_of
not_role t m = ap (λ x. role_by x (is_word words.Not t)) (kind_true t.kind k.Word (both _ _ m).0) ∙ ap (λ n. role_by k.Word n) m

-- ---- names

pub name_role : List ℕ → Role
name_role text = role_of (record { kind = kind_of (p.Name text); start = 0; text = text })

may_be_name : Kind → Bool
may_be_name kind = same_kind kind k.Number || same_kind kind k.Word

kind_is : (kind : Kind) (text : List ℕ) → IsSpelledAs kind text → may_be_name kind ≡ true → kind_of (p.Name text) ≡ kind
unfolding same_kind may_be_name
kind_is k.Number text s m = rw s.digits refl
kind_is k.Word text s m = rw s.no_number refl
kind_is other text s m = absurd cc

name_kept : (t : Token) → IsSpelledToken t → may_be_name t.kind ≡ true → role_of t ≡ name_role t.text
unfolding role_of name_role
name_kept t s m = ap (λ x. role_by x (same_kind x k.Word && bytes_eq t.text (keyword_text words.Not))) (sym (kind_is t.kind t.text s m))

item : (a b c : Bool) → (a || (b && c)) ≡ true → (a || b) ≡ true
item true b c h = refl
item false true c h = refl
item false false c h = absurd cc

-- the classes of names
abbrev pub is_name : Want → Bool
is_name wants.Item = true
is_name wants.RuleName = true
is_name wants.Variable = true
is_name wants.ProcedureName = true
is_name (wants.Kind kind) = same_kind kind k.Word
is_name (wants.Keyword word) = false

name_may : (w : Want) (t : Token) → is_name w ≡ true → meets w t ≡ true → may_be_name t.kind ≡ true
unfolding meets may_be_name
name_may wants.Item t e m = item (same_kind t.kind k.Number) (same_kind t.kind k.Word) (not (is_reserved t.text)) m
name_may wants.RuleName t e m = or_second (same_kind t.kind k.Number) (same_kind t.kind k.Word) (both _ _ (both (is_free_word t) _ m).0).0
name_may wants.Variable t e m = or_second (same_kind t.kind k.Number) (same_kind t.kind k.Word) (both _ _ (both (is_free_word t) _ m).0).0
name_may wants.ProcedureName t e m = or_second (same_kind t.kind k.Number) (same_kind t.kind k.Word) (both _ _ m).0
name_may (wants.Kind kind) t e m = or_second (same_kind t.kind k.Number) (same_kind t.kind k.Word) (rw (kind_true kind k.Word e) at m)
name_may (wants.Keyword word) t e m = absurd cc

pub name_is : (w : Want) (t : Token) → is_name w ≡ true → IsSpelledToken t → meets w t ≡ true → role_of t ≡ name_role t.text
name_is w t e s m = name_kept t s (name_may w t e m)

-- a word is `not` or plain
pub data IsPlainOrNot (r : Role) : Type 0 where
  plain : r ≡ role.Other → IsPlainOrNot r
  is_not : r ≡ role.Not → IsPlainOrNot r

word_by : (n : Bool) → IsPlainOrNot (role_by k.Word n)
word_by true = is_not refl
word_by false = plain refl

moved : {r s : Role} → r ≡ s → IsPlainOrNot s → IsPlainOrNot r
moved e (plain h) = plain (e ∙ h)
moved e (is_not h) = is_not (e ∙ h)

pub word_role : (t : Token) → meets any_word t ≡ true → IsPlainOrNot (role_of t)
unfolding meets role_of
word_role t m = moved (ap (λ x. role_by x (is_word words.Not t)) (kind_true t.kind k.Word m)) (word_by (is_word words.Not t))

-- ---- pieces

abbrev pub keyword_role : Keyword → Role
keyword_role words.Not = role.Not
keyword_role other = role.Other

abbrev pub piece_role : Piece → Role
piece_role (p.Sign kind) = role_by kind false
piece_role p.Negation = role.Minus
piece_role (p.Word word) = keyword_role word
piece_role (p.Name name) = name_role name
piece_role (p.Number value) = role.Other
piece_role (p.String characters) = role.Other

keyword_is : (word : Keyword) → role_by k.Word (bytes_eq (keyword_text word) (keyword_text words.Not)) ≡ keyword_role word
keyword_is words.Not = refl
keyword_is other = refl

sign_is : (kind : Kind) → role_by kind (same_kind kind k.Word && bytes_eq (text_of (p.Sign kind)) (keyword_text words.Not)) ≡ role_by kind false
unfolding same_kind
sign_is k.Word = refl
sign_is other = refl

token_role : (x : Piece) (start : ℕ) → role_of (record { kind = kind_of x; start = start; text = text_of x }) ≡ piece_role x
unfolding role_of same_kind name_role
token_role (p.Sign kind) start = sign_is kind
token_role p.Negation start = refl
token_role (p.Word word) start = keyword_is word
token_role (p.Name name) start = refl
token_role (p.Number value) start = refl
token_role (p.String characters) start = refl

abbrev pub roles : List Piece → List Role
roles ps = map piece_role ps

pub roles_append : (ps qs : List Piece) → roles (ps ++ qs) ≡ roles ps ++ roles qs
roles_append ps qs = map-append piece_role ps qs

pub are_roles : (ps : List Piece) (ts : List Token) → AreTokens ps ts → map role_of ts ≡ roles ps
are_roles _ _ none = refl
are_roles _ _ (next {ps} {ts} x start h) = rw (token_role x start, are_roles ps ts h) refl
