-- A canonical text is cut into its tokens, and the tokens of a text are well spelled.
use Rattle.std.proofs.Common.{◌≡◌, ℕ, ◌<◌, Bool, true, false, List, length, Ok, refl}
use Rattle.std.specs.Prelude.{All}
use Rattle.std.specs.List.{flat_map, list_all}
use Rattle.std.proofs.lemmas.List.Elements.{All-nil, All-cons}
use Rattle.gp_tokens.specs.declared.token.Kind.{Kind}
use Rattle.gp_tokens.specs.declared.token.Kind.TheVariants as k
use Rattle.gp_tokens.specs.declared.token.Token.{Token}
use Rattle.gp_tokens.specs.Bytes.{is_digit}
use Rattle.gp_tokens.specs.Cut.{IsSpelled, number, word, string, sign, end_of, IsCutFrom, ends, next}
use Rattle.gp_tokens.specs.Lexed.{tokens_of}
use Rattle.gp_tokens.specs.Signs.{signs}
use Rattle.gp_tokens.proofs.Cuts.{cut_of}
use Rattle.gp_tokens.proofs.Runs.{passes}
use Rattle.gp_tokens.proofs.Stands.{digits_in_word}
use Rattle.gp_syntax.specs.declared.tree.Decl.{Decl}
use Rattle.gp_fmt.specs.Pieces.{AreTokens}
use Rattle.gp_fmt.specs.Canonical.{declaration, line}
use Rattle.gp_fmt.specs.inside.Spelled.{IsWellSpelled, IsSpelledAs, IsSpelledToken}
use Rattle.gp_fmt.proofs.Cut.Texts.{lines_cut}

pub all_cut : (ds : List Decl) → All IsWellSpelled (flat_map declaration ds) → (tokens : List Token) × (tokens_of (flat_map line ds) ≡ Ok tokens) × AreTokens (flat_map declaration ds) tokens
all_cut ds h = lines_cut ds h 0

-- ---- the tokens of a text

-- no sign is of a kind that is not spelled as one
abbrev is_sign : Kind → Bool
is_sign k.Number = false
is_sign k.Word = false
is_sign k.String = false
is_sign other = true

sign_spelled : (kind : Kind) (text : List ℕ) → is_sign kind ≡ true → IsSpelledAs kind text
sign_spelled k.Number text h = absurd cc
sign_spelled k.Word text h = absurd cc
sign_spelled k.String text h = absurd cc
sign_spelled other text h = tt

no_number_too : (text : List ℕ) → list_all is_digit text ≡ false → list_all is_digit text ≡ true → ⊥
no_number_too text e h = cc

spelled : (kind : Kind) (text behind : List ℕ) → 0 < length text → IsSpelled kind text behind → IsSpelledAs kind text
spelled _ text behind some (number digits fits stops) = record { word = record { some = some; word = digits_in_word text digits; value = λ e. fits }; digits = digits }
spelled _ text behind some (word words mixed stops) = record { word = record { some = some; word = words; value = λ e. absurd (no_number_too text mixed e) }; no_number = mixed }
spelled _ _ behind some (string inner inside) = record { characters = inner; quoted = refl; are_characters = inside }
spelled kind text behind some (sign c most clear) = sign_spelled kind text (passes (λ (s : Kind × List ℕ). is_sign s.0) signs refl (kind, text) c)

cut_spelled : (source : List ℕ) (at : ℕ) (ts : List Token) → IsCutFrom source at ts → All IsSpelledToken ts
cut_spelled source at _ (ends g) = All-nil IsSpelledToken
cut_spelled source at _ (next {t = t} {ts = ts} le g is others) = All-cons IsSpelledToken t ts (spelled t.kind t.text _ is.some is.spelled) (cut_spelled source (end_of t) ts others)

pub all_spelled : (text : List ℕ) (tokens : List Token) → tokens_of text ≡ Ok tokens → All IsSpelledToken tokens
all_spelled text tokens h = cut_spelled text 0 tokens (cut_of text tokens h)
