-- Words that are lines, and the first that is none.
use Rattle.std.proofs.Common.{inl, inr, ◌≡◌, ℕ, zero, suc, ◌+◌, ◌<◌, Bool, true, false, List, [], ◌∷◌, ◌++◌, length, map, get_or, refl, sym, ap, subst, ◌∙◌, arith, append_assoc}
use Rattle.std.specs.Prelude.{◌⊎◌, Some, slice_get}
use Rattle.std.specs.Str.{bytes_eq}
use Rattle.std.proofs.lemmas.Option.{none-some, same_Some}
use Rattle.std.proofs.lemmas.Slice.Eq.{bytes_eq-Decides}
use Rattle.std.proofs.lemmas.List.{map-append}
use Rattle.gp_derivation.specs.declared.line.Line.{Line}
use Rattle.gp_derivation.specs.declared.line.Line.TheVariants.{Forward, Back, Show}
use Rattle.gp_derivation.specs.Script.{word_of, lines_of, IsScript, BreaksAt}
use Rattle.gp_derivation.specs.StepperLaws.{BreaksOnce}
use Rattle.gp_derivation.specs.inside.Words.{IsNoWord}

abbrev IsWord : List ℕ → Type 0
IsWord w = (line : Line) × (w ≡ word_of line)

-- ---- two words

abbrev first_byte : List ℕ → ℕ
first_byte w = get_or w 0 0

word_same : (a b : Line) → word_of a ≡ word_of b → a ≡ b
word_same Forward Forward e = refl
word_same Forward Back e = let d : ◌≡◌ {A = ℕ} 102 98 = ap first_byte e in absurd (omega arith)
word_same Forward Show e = let d : ◌≡◌ {A = ℕ} 102 115 = ap first_byte e in absurd (omega arith)
word_same Back Forward e = let d : ◌≡◌ {A = ℕ} 98 102 = ap first_byte e in absurd (omega arith)
word_same Back Back e = refl
word_same Back Show e = let d : ◌≡◌ {A = ℕ} 98 115 = ap first_byte e in absurd (omega arith)
word_same Show Forward e = let d : ◌≡◌ {A = ℕ} 115 102 = ap first_byte e in absurd (omega arith)
word_same Show Back e = let d : ◌≡◌ {A = ℕ} 115 98 = ap first_byte e in absurd (omega arith)
word_same Show Show e = refl

abbrev head_of : List (List ℕ) → List ℕ
head_of [] = []
head_of (w ∷ ws) = w

abbrev tail_of : List (List ℕ) → List (List ℕ)
tail_of [] = []
tail_of (w ∷ ws) = ws

words_same : (s t : List Line) → map word_of s ≡ map word_of t → s ≡ t
words_same [] [] e = refl
words_same [] (b ∷ t) e = absurd cc
words_same (a ∷ s) [] e = absurd cc
words_same (a ∷ s) (b ∷ t) e = ap (λ l. l ∷ s) (word_same a b (ap head_of e)) ∙ ap (λ l. b ∷ l) (words_same s t (ap tail_of e))

-- ---- each word is that of a line or of none

is_or_not : (w v : List ℕ) → (w ≡ v) ⊎ (w ≡ v → ⊥)
is_or_not w v = by (bytes_eq w v) refl
  where
    by : (b : Bool) → bytes_eq w v ≡ b → (w ≡ v) ⊎ (w ≡ v → ⊥)
    by true h = inl ((bytes_eq-Decides w v).0 h)
    by false h = inr (λ e. let t : bytes_eq w v ≡ true = (bytes_eq-Decides w v).1 e in absurd cc)

no_word : (w : List ℕ) → (w ≡ word_of Forward → ⊥) → (w ≡ word_of Back → ⊥) → (w ≡ word_of Show → ⊥) → IsNoWord w
no_word w f b s Forward = f
no_word w f b s Back = b
no_word w f b s Show = s

word_or_not : (w : List ℕ) → IsWord w ⊎ IsNoWord w
word_or_not w =
    elim (is_or_not w (word_of Forward)) [
      | inl e ↦ inl (Forward, e)
      | inr f ↦ (elim (is_or_not w (word_of Back)) [
        | inl e ↦ inl (Back, e)
        | inr b ↦ (elim (is_or_not w (word_of Show)) [ inl e ↦ inl (Show, e) | inr s ↦ inr (no_word w f b s) ])
      ])
    ]

-- ---- words of lines, and what stands behind them

word_at : (s : List Line) (k : ℕ) (w : List ℕ) → slice_get (map word_of s) k ≡ Some w → IsWord w
word_at [] k w e = absurd (none-some w e)
word_at (l ∷ s) zero w e = (l, sym (same_Some (word_of l) w e))
word_at (l ∷ s) (suc k) w e = word_at s k w e

word_before : (s : List Line) (ws : List (List ℕ)) (k : ℕ) (w : List ℕ) → k < length s → slice_get (map word_of s ++ ws) k ≡ Some w → IsWord w
word_before [] ws k w b e = absurd (omega arith)
word_before (l ∷ s) ws zero w b e = (l, sym (same_Some (word_of l) w e))
word_before (l ∷ s) ws (suc k) w b e = word_before s ws k w (omega arith) e

word_behind : (s : List Line) (w : List ℕ) (ws : List (List ℕ)) → slice_get (map word_of s ++ (w ∷ ws)) (length s) ≡ Some w
word_behind [] w ws = refl
word_behind (l ∷ s) w ws = word_behind s w ws

-- a line more is read
pub read_more : (text rest rest' word more : List ℕ) (lines lines' : List Line) (line : Line) → lines_of text ≡ map word_of lines ++ lines_of rest → lines_of rest ≡ word ∷ lines_of more
    → word ≡ word_of line → lines' ≡ lines ++ line ∷ [] → rest' ≡ more → lines_of text ≡ map word_of lines' ++ lines_of rest'
read_more text rest rest' word more lines lines' line was cut is grown moved =
    was ∙ ap (λ ws. map word_of lines ++ ws) (cut ∙ ap (λ w. w ∷ lines_of more) is) ∙ sym (append_assoc (map word_of lines) (word_of line ∷ []) (lines_of more))
    ∙ ap (λ ws. ws ++ lines_of more) (sym (map-append word_of lines (line ∷ []))) ∙ ap (λ ls. map word_of ls ++ lines_of more) (sym grown)
    ∙ ap (λ r. map word_of lines' ++ lines_of r) (sym moved)

-- the next line is none
pub breaks_here : (text rest word more : List ℕ) (lines : List Line) (n : ℕ) → lines_of text ≡ map word_of lines ++ lines_of rest → lines_of rest ≡ word ∷ lines_of more
    → IsNoWord word → n ≡ length lines + 1 → BreaksAt text n
breaks_here text rest word more lines n was cut none counted =
    let all : lines_of text ≡ map word_of lines ++ (word ∷ lines_of more) = was ∙ ap (λ ws. map word_of lines ++ ws) cut in
    record {
      place = length lines;
      counted = counted;
      word = word;
      is_line = subst (λ ws. slice_get ws (length lines) ≡ Some word) (sym all) (word_behind lines word (lines_of more));
      none = none;
      before = λ k w b e. word_before lines (word ∷ lines_of more) k w b (subst (λ ws. slice_get ws k ≡ Some w) all e);
    }

-- ---- a text is that of one script or breaks at one line

-- the first of the words that is none of a line
record First (ws : List (List ℕ)) : Type 0 where
  place : ℕ
  word : List ℕ
  is : slice_get ws place ≡ Some word
  none : IsNoWord word
  before : (k : ℕ) (w : List ℕ) → k < place → slice_get ws k ≡ Some w → IsWord w

first_behind : (w : List ℕ) (ws : List (List ℕ)) → IsWord w → First ws → First (w ∷ ws)
first_behind w ws h f = record { place = suc f.place; word = f.word; is = f.is; none = f.none; before = before }
  where
    before : (k : ℕ) (v : List ℕ) → k < suc f.place → slice_get (w ∷ ws) k ≡ Some v → IsWord v
    before zero v b e = (h.0, sym (same_Some w v e) ∙ h.1)
    before (suc k) v b e = f.before k v (omega arith) e

lines_or_first : (ws : List (List ℕ)) → ((s : List Line) × (ws ≡ map word_of s)) ⊎ First ws
lines_or_first [] = inl ([], refl)
lines_or_first (w ∷ ws) =
    elim (word_or_not w) [
      | inl h ↦ (elim (lines_or_first ws) [
        | inl t ↦ inl (h.0 ∷ t.0, ap (λ v. v ∷ ws) h.1 ∙ ap (λ vs. word_of h.0 ∷ vs) t.1)
        | inr f ↦ inr (first_behind w ws h f)
      ])
      | inr n ↦ inr (record { place = 0; word = w; is = refl; none = n; before = λ k v b e. absurd (omega arith) })
    ]

some : (text : List ℕ) → ((s : List Line) × IsScript text s) ⊎ ((n : ℕ) × BreaksAt text n)
some text =
    elim (lines_or_first (lines_of text)) [
      | inl t ↦ inl t
      | inr f ↦ inr (f.place + 1, record { place = f.place; counted = refl; word = f.word; is_line = f.is; none = f.none; before = f.before })
    ]

not_before : (text : List ℕ) (m n : ℕ) (a : BreaksAt text m) (b : BreaksAt text n) → a.place < b.place → ⊥
not_before text m n a b h = let l = b.before a.place a.word h a.is_line in a.none l.0 l.1

one : (text : List ℕ) (m n : ℕ) → BreaksAt text m → BreaksAt text n → m ≡ n
one text m n a b =
    let p = not_before text m n a b in
    let q = not_before text n m b a in
    let c = a.counted in
    let d = b.counted in
    omega arith

none : (text : List ℕ) (s : List Line) (n : ℕ) → IsScript text s → BreaksAt text n → ⊥
none text s n h b = let l = word_at s b.place b.word (subst (λ ws. slice_get ws b.place ≡ Some b.word) h b.is_line) in b.none l.0 l.1

pub breaks_once : (text : List ℕ) → BreaksOnce text
breaks_once text = record { some = some text; told = λ s t h k. words_same s t (sym h ∙ k); one = one text; none = none text }
