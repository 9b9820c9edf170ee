-- Lines that are read.
use Rattle.std.proofs.Common.{◌≡◌, ℕ, zero, suc, ◌+◌, Bool, true, false, List, [], ◌∷◌, ◌++◌, length, map, take, drop, refl, sym, ap, subst, ◌∙◌, arith, append_assoc, append-nil}
use Rattle.std.specs.Prelude.{All, codes}
use Rattle.std.specs.List.{join_with_byte}
use Rattle.std.proofs.lemmas.List.{length-map}
use Rattle.std.specs.Cmp.Lexicographic.{pointwise}
use Rattle.std.proofs.Math.Dec.{eqb}
use Rattle.std.proofs.lemmas.Slice.Eq.{slice_eq-Decides}
use Rattle.std.proofs.lemmas.Bool.Decides.{Decides-eqb}
use Rattle.gp_memory.proofs.Basics.{map_push as map_more}
use Rattle.gp_syntax.specs.declared.found.Item.{Item as Recorded}
use Rattle.gp_syntax.specs.Tree.{item_of}
use Rattle.gp_syntax.specs.Run.{Item}
use Rattle.gp_trace.specs.TraceText.{item_words, item_line}
use Rattle.gp_trace.specs.Reading.{CanBeHeld}
use Rattle.gp_trace.specs.inside.Lines.{item_lines, EndsLine, EndsNoLine, LinesStop}
use Rattle.gp_trace.specs.inside.Words.{IsLineOf, IsLineOfNone}
use Rattle.gp_trace.proofs.Bytes.{lacks, lack_all, no_cut, cut_same}
use Rattle.gp_trace.proofs.Items.{all_tail, feedless, line_is}

-- ---- the end of a line

-- ---- items that were read

pub record HasRead (text : List ℕ) (items : List Item) (rest : List ℕ) : Type 0 where
  pub begins : text ≡ item_lines items ++ rest
  pub held : All CanBeHeld items

lines_append : (s : List Item) (i : Item) → item_lines (s ++ i ∷ []) ≡ item_lines s ++ item_line i
lines_append [] i = append-nil (item_line i)
lines_append (j ∷ s) i = ap (λ l. item_line j ++ l) (lines_append s i) ∙ sym (append_assoc (item_line j) (item_lines s) (item_line i))

all_more : {A : Type 0} (P : A → Type 0) (xs : List A) (x : A) → All P xs → P x → All P (xs ++ x ∷ [])
all_more P [] x h p zero d b = p
all_more P [] x h p (suc k) d b = absurd (omega arith)
all_more P (y ∷ xs) x h p zero d b = h 0 y (omega arith)
all_more P (y ∷ xs) x h p (suc k) d b = all_more P xs x (all_tail P y xs h) p k d (omega arith)

-- a line that is read, and the rest behind it
line_here : (line rest more : List ℕ) (i : Item) → rest ≡ line ++ (10 ∷ more) → IsLineOf line i → rest ≡ item_line i ++ more
line_here line rest more i e h = e ∙ ap (λ l. l ++ (10 ∷ more)) (sym h.text) ∙ sym (line_is i more)

pub read_more : (text : List ℕ) (items : List Item) (rest : List ℕ) (n : ℕ) (i : Item) → HasRead text items rest → EndsLine rest n → IsLineOf (take n rest) i → HasRead text (items ++ i ∷ []) (drop (n + 1) rest)
read_more text items rest n i was ends h = record {
  begins = was.begins ∙ ap (λ l. item_lines items ++ l) (line_here (take n rest) rest (drop (n + 1) rest) i ends.cut h)
      ∙ sym (append_assoc (item_lines items) (item_line i) (drop (n + 1) rest)) ∙ ap (λ l. l ++ drop (n + 1) rest) (sym (lines_append items i));
  held = all_more CanBeHeld items i was.held h.held;
}

-- the line is neither that of an item nor the end
pub read_stop : (text : List ℕ) (items : List Item) (rest : List ℕ) (n k : ℕ) → HasRead text items rest → EndsLine rest n → (take n rest ≡ codes "end" → ⊥) → IsLineOfNone (take n rest) → k ≡ length items + 2 → LinesStop text k
read_stop text items rest n k was ends h none c = record {
  items = items;
  rest = rest;
  held = was.held;
  begins = was.begins;
  no_item = λ i more held e.
      let same = cut_same 10 (take n rest) (join_with_byte 32 (item_words i)) (drop (n + 1) rest) more (lack_all 10 (take n rest) ends.line) (feedless i held) (sym ends.cut ∙ e ∙ line_is i more) in
      none i (record { text = sym same.0; held = held });
  no_end = λ more e.
      let same = cut_same 10 (take n rest) (codes "end") (drop (n + 1) rest) more (lack_all 10 (take n rest) ends.line) refl (sym ends.cut ∙ e) in
      h same.0;
  line = c;
}

-- there is no further line
pub read_out : (text : List ℕ) (items : List Item) (rest : List ℕ) (k : ℕ) → HasRead text items rest → EndsNoLine rest → k ≡ length items + 2 → LinesStop text k
read_out text items rest k was ends c = record {
  items = items;
  rest = rest;
  held = was.held;
  begins = was.begins;
  no_item = λ i more held e. no_cut 10 (join_with_byte 32 (item_words i)) more (subst (λ l. lacks 10 l ≡ true) (e ∙ line_is i more) (lack_all 10 rest ends));
  no_end = λ more e. no_cut 10 (codes "end") more (subst (λ l. lacks 10 l ≡ true) e (lack_all 10 rest ends));
  line = c;
}

-- ---- behind the header

-- ---- turns of the loop, over the items that it holds

pub stop_at : (text : List ℕ) (items : List Recorded) (rest : List ℕ) (n k : ℕ) (line word : List ℕ) (b : Bool) → HasRead text (map item_of items) rest → EndsLine rest n → line ≡ take n rest → b ≡ pointwise eqb line word → b ≡ false → word ≡ codes "end"
    → IsLineOfNone line → k ≡ length items + 2 → LinesStop text k
stop_at text items rest n k line word b was ends e tested off is none c =
    let len : length (map item_of items) ≡ length items = length-map items item_of in
    read_stop text (map item_of items) rest n k was ends
    (λ h. absurd (let t : b ≡ true = (slice_eq-Decides Decides-eqb line word b tested).1 (e ∙ h ∙ sym is) in let u : true ≡ false = sym t ∙ off in cc))
    (subst IsLineOfNone e none) (omega arith)

pub more_at : (text : List ℕ) (items items' : List Recorded) (rest rest' : List ℕ) (n : ℕ) (line : List ℕ) (i : Recorded) → HasRead text (map item_of items) rest → EndsLine rest n → line ≡ take n rest → rest' ≡ drop (n + 1) rest → IsLineOf line (item_of i)
    → items' ≡ items ++ i ∷ [] → HasRead text (map item_of items') rest'
more_at text items items' rest rest' n line i was ends e f h c =
    let done = read_more text (map item_of items) rest n (item_of i) was ends (subst (λ l. IsLineOf l (item_of i)) e h) in
    subst (λ l. HasRead text l rest') (sym (ap (map item_of) c ∙ map_more item_of items i)) (subst (HasRead text (map item_of items ++ item_of i ∷ [])) (sym f) done)

pub out_at : (text : List ℕ) (items : List Recorded) (rest : List ℕ) (k : ℕ) → HasRead text (map item_of items) rest → EndsNoLine rest → k ≡ length items + 2 → LinesStop text k
out_at text items rest k was ends c = let len : length (map item_of items) ≡ length items = length-map items item_of in read_out text (map item_of items) rest k was ends (omega arith)
