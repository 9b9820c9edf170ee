-- Names as they are read and printed.
use Rattle.std.proofs.Common.{◌≡◌, inl, inr, ℕ, Bool, true, not, List, [], ◌∷◌, refl, sym, ap, subst, ◌∙◌}
use Rattle.std.specs.Prelude.{if◌then◌else◌}
use Rattle.gp_memory.proofs.Basics.{both, or_cases as either}
use Rattle.gp_tokens.specs.declared.token.Kind.{Kind}
use Rattle.gp_tokens.specs.declared.token.Kind.TheVariants as k
use Rattle.gp_tokens.specs.declared.token.Token.{Token}
use Rattle.gp_tokens.specs.Kinds.{same_kind}
use Rattle.gp_tokens.specs.Words.{is_free_word, is_reserved}
use Rattle.gp_values.specs.Names.{Name}
use Rattle.gp_tokens.specs.declared.want.Want.{Want}
use Rattle.gp_tokens.specs.declared.want.Want.TheVariants as wants
use Rattle.gp_tokens.specs.Wants.{meets}
use Rattle.gp_tokens.specs.SignWants.{any_word}
use Rattle.gp_tokens.specs.Shape.{Is, ◌then◌}
use Rattle.gp_tokens.specs.Grammar.{shape_of}
use Rattle.gp_tokens.proofs.Wants.{kind_true}
use Rattle.gp_expressions.specs.Expressions.{name, text_of}
use Rattle.gp_fmt.specs.declared.piece.Piece.TheVariants as p
use Rattle.gp_fmt.specs.Pieces.{kind_of}
use Rattle.gp_fmt.specs.inside.Spelled.{IsWordText, IsSpelledAs, IsSpelledWord, IsSpelledNumber}
use Rattle.gp_fmt.proofs.Parse.Printed.{token_at, done, next, Reads}
use Rattle.gp_fmt.proofs.Parse.Gives.{Gives, IsFound, token_gives, made_gives}

-- a name that is spelled as one, and is met where it is wanted
pub record IsNamed (want : Want) (n : Name) : Type 0 where
  pub word : IsWordText n
  pub met : (start : ℕ) → meets want (token_at (p.Name n) start) ≡ true

-- what a token meets, it meets wherever it begins
starts_anywhere : (want : Want) (kind : Kind) (text : List ℕ) (start other : ℕ) → meets want (record { kind = kind; start = start; text = text }) ≡ true → meets want (record { kind = kind; start = other; text = text }) ≡ true
unfolding meets
starts_anywhere (wants.Kind a) kind text start other m = m
starts_anywhere (wants.Keyword word) kind text start other m = m
starts_anywhere wants.Item kind text start other m = m
starts_anywhere wants.RuleName kind text start other m = m
starts_anywhere wants.Variable kind text start other m = m
starts_anywhere wants.ProcedureName kind text start other m = m

of_kind : (want : Want) (t : Token) → IsFound want t → kind_of (p.Name t.text) ≡ t.kind → IsWordText t.text → IsNamed want t.text
of_kind want t f e w = record {
  word = w;
  met = λ start. subst (λ (kind : Kind). meets want (record { kind = kind; start = start; text = t.text }) ≡ true) (sym e) (starts_anywhere want t.kind t.text t.start start f.meets);
}

a_word : (want : Want) (t : Token) → IsFound want t → t.kind ≡ k.Word → IsNamed want t.text
a_word want t f e =
    let s : IsSpelledWord t.text = subst (λ (kind : Kind). IsSpelledAs kind t.text) e f.spelled in
    of_kind want t f (ap (λ (b : Bool). if b then k.Number else k.Word) s.no_number ∙ sym e) s.word

a_number : (want : Want) (t : Token) → IsFound want t → t.kind ≡ k.Number → IsNamed want t.text
a_number want t f e =
    let s : IsSpelledNumber t.text = subst (λ (kind : Kind). IsSpelledAs kind t.text) e f.spelled in
    of_kind want t f (ap (λ (b : Bool). if b then k.Number else k.Word) s.digits ∙ sym e) s.word

-- the classes of names
pub data IsClass : Want → Type 0 where
  word : IsClass any_word
  item : IsClass wants.Item
  rule : IsClass wants.RuleName
  variable : IsClass wants.Variable
  procedure : IsClass wants.ProcedureName

free_word : (t : Token) → is_free_word t ≡ true → t.kind ≡ k.Word
free_word t m = kind_true t.kind k.Word (both (same_kind t.kind k.Word) (not (is_reserved t.text)) m).0

named : (want : Want) → IsClass want → (t : Token) → IsFound want t → IsNamed want t.text
unfolding meets
named _ word t f = a_word _ t f (kind_true t.kind k.Word f.meets)
named _ item t f = elim (either (same_kind t.kind k.Number) (is_free_word t) f.meets) [
  | inl e ↦ a_number wants.Item t f (kind_true t.kind k.Number e)
  | inr e ↦ a_word wants.Item t f (free_word t e)
]
named _ rule t f = a_word wants.RuleName t f (free_word t (both (is_free_word t) _ f.meets).0)
named _ variable t f = a_word wants.Variable t f (free_word t (both (is_free_word t) _ f.meets).0)
named _ procedure t f = a_word wants.ProcedureName t f (kind_true t.kind k.Word (both (same_kind t.kind k.Word) _ f.meets).0)

pub name_gives : (want : Want) → IsClass want → Gives (shape_of (name want)) (IsNamed want)
unfolding name
name_gives want c = made_gives text_of (Is want) (IsFound want) (IsNamed want) (λ t f. named want c t f) (token_gives want)

pub name_reads : (want : Want) (n : Name) → IsNamed want n → Reads (p.Name n ∷ []) (shape_of (name want)) n
unfolding name
name_reads want n h _ _ (next {ts = ts} _ start done) = record { of = token_at (p.Name n) start; shape = record { front = refl; is = h.met start }; made = refl }
