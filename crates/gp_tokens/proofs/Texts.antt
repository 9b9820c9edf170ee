-- The Numbers and the Strings of a text.
use Rattle.std.proofs.Common.{◌≡◌, ℕ, zero, suc, ◌<◌, ◌^◌, Bool, true, false, not, List, [], ◌∷◌, ◌++◌, length, Ok, refl, subst, arith, Some}
use Rattle.std.specs.Prelude.{◌&&◌, Contains, slice_index_or}
use Rattle.std.specs.List.{list_all}
use Rattle.std.proofs.lemmas.Bool.{le-leb}
use Rattle.std.proofs.lemmas.List.Elements.{All-nil, All-cons}
use Rattle.gp_tokens.specs.declared.token.Kind.{Kind}
use Rattle.gp_tokens.specs.declared.token.Kind.TheVariants as k
use Rattle.gp_tokens.specs.declared.token.Token.{Token}
use Rattle.gp_tokens.specs.Bytes.{is_string_byte}
use Rattle.gp_tokens.specs.Cut.{IsSpelled, number, word, string, sign, IsTokenOf, IsCutFrom, ends, next, end_of}
use Rattle.gp_tokens.specs.Front.{signs}
use Rattle.gp_tokens.specs.Kinds.{same_kind}
use Rattle.gp_tokens.specs.Lexed.{tokens_of}
use Rattle.gp_tokens.specs.Numbers.{number_of, checked_number}
use Rattle.gp_tokens.proofs.Cuts.{cut_of}
use Rattle.gp_tokens.proofs.Runs.{passes}
use Rattle.gp_values.specs.Texts.{IsCharacter, IsText}
use Rattle.gp_tokens.specs.GrammarLaws.{StringsHaveCharacters, NumbersHaveValues}
use Rattle.gp_tokens.proofs.Strings.{told}
use Rattle.gp_tokens.proofs.Wants.{kind_same}

one_of : (source : List ℕ) (at : ℕ) (ts : List Token) → IsCutFrom source at ts → (i : ℕ) (t : Token) → i < length ts → slice_index_or ts i t ≡ t → IsTokenOf source t
one_of source at _ (ends g) i t lt e = absurd (omega arith)
one_of source at _ (next le g one rest) zero t lt e = subst (IsTokenOf source) e one
one_of source at _ (next {t = u} le g one rest) (suc i) t lt e = one_of source (end_of u) _ rest i t (omega arith) e

token_of : (text : List ℕ) (ts : List Token) → tokens_of text ≡ Ok ts → (t : Token) → Contains ts t → IsTokenOf text t
token_of text ts h t (i, lt, e) = one_of text 0 ts (cut_of text ts h) i t lt e

all_characters : (cs : List ℕ) → list_all is_string_byte cs ≡ true → IsText cs
all_characters [] h = All-nil IsCharacter
all_characters (b ∷ cs) h =
    let p = both (is_string_byte b) (list_all is_string_byte cs) h in
    All-cons IsCharacter b cs (told b p.0) (all_characters cs p.1)
  where
    both : (a b : Bool) → (a && b) ≡ true → (a ≡ true) × (b ≡ true)
    both true b h = (refl, h)
    both false b h = absurd cc

no_sign : (kind other : Kind) (text : List ℕ) → list_all (λ s. not (same_kind s.0 other)) signs ≡ true → Contains signs (kind, text) → kind ≡ other → ⊥
no_sign kind other text none c e =
    let free : not (same_kind kind other) ≡ true = passes (λ s. not (same_kind s.0 other)) signs none (kind, text) c in
    let same : same_kind kind other ≡ true = subst (λ (x : Kind). same_kind kind x ≡ true) e (kind_same kind) in
    cc

quoted_text : (kind : Kind) (text behind : List ℕ) → IsSpelled kind text behind → kind ≡ k.String → (cs : List ℕ) × (text ≡ 34 ∷ cs ++ 34 ∷ []) × IsText cs
unfolding same_kind
quoted_text _ text behind (number digits range end) e = absurd cc
quoted_text _ text behind (word bytes more end) e = absurd cc
quoted_text _ _ behind (string inner all) e = (inner, refl, all_characters inner all)
quoted_text kind text behind (sign c longest clear) e = absurd (no_sign kind k.String text refl c e)

valued_text : (kind : Kind) (text behind : List ℕ) → IsSpelled kind text behind → kind ≡ k.Number → (value : ℕ) × (checked_number text ≡ Some value)
unfolding same_kind
valued_text _ text behind (number digits range end) e = (number_of text, rw (le-leb (number_of text) (2 ^ 127) range) refl)
valued_text _ text behind (word bytes more end) e = absurd cc
valued_text _ _ behind (string inner all) e = absurd cc
valued_text kind text behind (sign c longest clear) e = absurd (no_sign kind k.Number text refl c e)

pub strings_have_characters : StringsHaveCharacters
strings_have_characters text ts t h c kind = let p = token_of text ts h t c in quoted_text t.kind t.text _ p.spelled kind

pub numbers_have_values : NumbersHaveValues
numbers_have_values text ts t h c kind = let p = token_of text ts h t c in valued_text t.kind t.text _ p.spelled kind
