-- The lines of items: their words, and that each tells its item.
use Rattle.std.proofs.Common.{◌≡◌, ℕ, suc, ◌<◌, Bool, true, false, List, [], ◌∷◌, ◌++◌, length, map, refl, sym, ap, ◌∙◌, arith, lit<, decimal, append_assoc, append-nil}
use Rattle.std.specs.Prelude.{◌==◌, All, codes, slice_index_or, if◌then◌else◌}
use Rattle.std.specs.List.{list_all, slice_split, join_with_byte}
use Rattle.std.specs.Str.{all_ascii_digits}
use Rattle.std.specs.Char.{is_ascii_digit}
use Rattle.std.proofs.lemmas.Fmt.{decimal_injective}
use Rattle.std.proofs.lemmas.List.{append_cancel_right}
use Rattle.gp_memory.proofs.Basics.{and_both}
use Rattle.gp_syntax.specs.Rule.{Found}
use Rattle.gp_syntax.specs.Run.{Item, Stepped, Turned, Back}
use Rattle.gp_trace.specs.TraceText.{image_word, images_of, found_words, item_words, item_line}
use Rattle.gp_trace.specs.Reading.{IsNumber, IsHeld, CanBeHeld}
use Rattle.gp_trace.specs.inside.Lines.{item_lines}
use Rattle.gp_trace.proofs.Bytes.{lacks, lacks_append, no_cut, first_of, rest_of, cut_same, digits, lacks_digits, list_all_append, split_joined, join_lacks}

pub all_tail : {A : Type 0} (P : A → Type 0) (x : A) (xs : List A) → All P (x ∷ xs) → All P xs
all_tail P x xs h k d b = h (suc k) d (omega arith)

pub all_head : {A : Type 0} (P : A → Type 0) (x : A) (xs : List A) → All P (x ∷ xs) → P x
all_head P x xs h = h 0 x (omega arith)

-- ---- bytes that no word has

record IsOutside (c : ℕ) : Type 0 where
  digit : is_ascii_digit c ≡ false
  tilde : lacks c (codes "~") ≡ true
  step : lacks c (codes "step") ≡ true
  nodes : lacks c (codes "nodes") ≡ true
  edges : lacks c (codes "edges") ≡ true
  turn : lacks c (codes "turn") ≡ true
  back : lacks c (codes "back") ≡ true

space_outside : IsOutside 32
space_outside = record { digit = refl; tilde = refl; step = refl; nodes = refl; edges = refl; turn = refl; back = refl }

feed_outside : IsOutside 10
feed_outside = record { digit = refl; tilde = refl; step = refl; nodes = refl; edges = refl; turn = refl; back = refl }

module _ (c : ℕ) (o : IsOutside c) where
  number_lacks : (n : ℕ) → IsNumber n → lacks c (decimal n) ≡ true
  number_lacks n h = lacks_digits c (decimal n) o.digit (digits n h)

  numbers_lack : (ns : List ℕ) → All IsNumber ns → list_all (lacks c) (map decimal ns) ≡ true
  numbers_lack [] h = refl
  numbers_lack (n ∷ ns) h = and_both _ _ (number_lacks n (all_head IsNumber n ns h)) (numbers_lack ns (all_tail IsNumber n ns h))

  image_lacks : (n : ℕ) (r : Bool) → IsNumber n → lacks c (decimal n ++ (if r then codes "~" else [])) ≡ true
  image_lacks n true h = lacks_append c (decimal n) (codes "~") (number_lacks n h) o.tilde
  image_lacks n false h = lacks_append c (decimal n) [] (number_lacks n h) refl

  images_lack : (es : List ℕ) (rs : List Bool) → All IsNumber es → list_all (lacks c) (map image_word (images_of es rs)) ≡ true
  images_lack [] rs h = refl
  images_lack (e ∷ es) [] h = refl
  images_lack (e ∷ es) (r ∷ rs) h = and_both _ _ (image_lacks e r (all_head IsNumber e es h)) (images_lack es rs (all_tail IsNumber e es h))

  found_lacks : (m : Found) → IsHeld m → list_all (lacks c) (rest_of (found_words m)) ≡ true
  found_lacks m h =
      let small = h.rule in
      and_both _ _ (number_lacks m.rule (omega arith))
      (and_both _ _ o.nodes (list_all_append (lacks c) (map decimal m.nodes) _ (numbers_lack m.nodes h.nodes) (and_both _ _ o.edges (images_lack m.edges m.reversed h.edges))))

  item_lacks : (i : Item) → CanBeHeld i → list_all (lacks c) (item_words i) ≡ true
  item_lacks (Stepped m) h = and_both _ _ o.step (found_lacks m h)
  item_lacks Turned h = and_both _ _ o.turn refl
  item_lacks (Back k) h = and_both _ _ o.back (and_both _ _ (number_lacks k h) refl)

pub feedless : (i : Item) → CanBeHeld i → lacks 10 (join_with_byte 32 (item_words i)) ≡ true
feedless i h = join_lacks (item_words i) (item_lacks 10 feed_outside i h)

pub words_back : (i : Item) → CanBeHeld i → slice_split (λ b. b == 32) (join_with_byte 32 (item_words i)) ≡ item_words i
words_back (Stepped m) h = split_joined (codes "step") (rest_of (found_words m)) refl (found_lacks 32 space_outside m h)
words_back Turned h = split_joined (codes "turn") [] refl refl
words_back (Back k) h = split_joined (codes "back") (decimal k ∷ []) refl (and_both _ _ (number_lacks 32 space_outside k h) refl)

-- ---- words tell what they spell

pub word_at : List (List ℕ) → ℕ → List ℕ
word_at ws k = slice_index_or ws k []

pub not_word : (n : ℕ) (w : List ℕ) → IsNumber n → all_ascii_digits w ≡ false → decimal n ≡ w → ⊥
not_word n w h k e = let t : true ≡ false = sym (digits n h) ∙ ap all_ascii_digits e ∙ k in absurd cc

pub no_tilde : (n m : ℕ) → IsNumber m → decimal n ++ codes "~" ≡ decimal m → ⊥
no_tilde n m h e = no_cut 126 (decimal n) [] (ap (lacks 126) e ∙ lacks_digits 126 (decimal m) refl (digits m h))

image_same : (n m : ℕ) (b c : Bool) → IsNumber n → IsNumber m → decimal n ++ (if b then codes "~" else []) ≡ decimal m ++ (if c then codes "~" else []) → (n ≡ m) × (b ≡ c)
image_same n m true true h k e = (decimal_injective n m h k (append_cancel_right (decimal n) (decimal m) (codes "~") e), refl)
image_same n m true false h k e = absurd (no_tilde n m k (e ∙ append-nil (decimal m)))
image_same n m false true h k e = absurd (no_tilde m n h (sym e ∙ append-nil (decimal n)))
image_same n m false false h k e = (decimal_injective n m h k (sym (append-nil (decimal n)) ∙ e ∙ append-nil (decimal m)), refl)

abbrev pub head_word : List (List ℕ) → List ℕ
head_word [] = []
head_word (w ∷ ws) = w

images_same : (es ds : List ℕ) (rs qs : List Bool) → length rs ≡ length es → length qs ≡ length ds → All IsNumber es → All IsNumber ds
    → map image_word (images_of es rs) ≡ map image_word (images_of ds qs) → (es ≡ ds) × (rs ≡ qs)
images_same [] [] [] [] a b h k e = (refl, refl)
images_same [] [] (r ∷ rs) qs a b h k e = absurd (omega arith)
images_same [] [] [] (q ∷ qs) a b h k e = absurd (omega arith)
images_same [] (d ∷ ds) rs [] a b h k e = absurd (omega arith)
images_same [] (d ∷ ds) rs (q ∷ qs) a b h k e = absurd (let f : 0 ≡ length (map image_word (images_of (d ∷ ds) (q ∷ qs))) = ap length e in omega arith)
images_same (x ∷ es) ds [] qs a b h k e = absurd (omega arith)
images_same (x ∷ es) [] (r ∷ rs) qs a b h k e = absurd (let f : length (map image_word (images_of (x ∷ es) (r ∷ rs))) ≡ 0 = ap length e in omega arith)
images_same (x ∷ es) (d ∷ ds) (r ∷ rs) [] a b h k e = absurd (omega arith)
images_same (x ∷ es) (d ∷ ds) (r ∷ rs) (q ∷ qs) a b h k e =
    let now = image_same x d r q (all_head IsNumber x es h) (all_head IsNumber d ds k) (ap head_word e) in
    let rest = images_same es ds rs qs (omega arith) (omega arith) (all_tail IsNumber x es h) (all_tail IsNumber d ds k) (ap rest_of e) in
    (ap (λ n. n ∷ es) now.0 ∙ ap (λ ns. d ∷ ns) rest.0, ap (λ v. v ∷ rs) now.1 ∙ ap (λ vs. q ∷ vs) rest.1)

-- the words before `edges` and behind it
pub nodes_same : (ns ms : List ℕ) (xs ys : List (List ℕ)) → All IsNumber ns → All IsNumber ms → map decimal ns ++ (codes "edges" ∷ xs) ≡ map decimal ms ++ (codes "edges" ∷ ys) → (ns ≡ ms) × (xs ≡ ys)
nodes_same [] [] xs ys h k e = (refl, ap rest_of e)
nodes_same [] (m ∷ ms) xs ys h k e = absurd (not_word m (codes "edges") (all_head IsNumber m ms k) refl (sym (ap head_word e)))
nodes_same (n ∷ ns) [] xs ys h k e = absurd (not_word n (codes "edges") (all_head IsNumber n ns h) refl (ap head_word e))
nodes_same (n ∷ ns) (m ∷ ms) xs ys h k e =
    let rest = nodes_same ns ms xs ys (all_tail IsNumber n ns h) (all_tail IsNumber m ms k) (ap rest_of e) in
    let now = decimal_injective n m (all_head IsNumber n ns h) (all_head IsNumber m ms k) (ap head_word e) in
    (ap (λ x. x ∷ ns) now ∙ ap (λ l. m ∷ l) rest.0, rest.1)

made_same : (r s : ℕ) (ds es : List Bool) (ns ms xs ys : List ℕ) → r ≡ s → ds ≡ es → ns ≡ ms → xs ≡ ys
    → (let a : Found = record { rule = r; reversed = ds; nodes = ns; edges = xs } in let b : Found = record { rule = s; reversed = es; nodes = ms; edges = ys } in a ≡ b)
made_same r s ds es ns ms xs ys p q u v =
    let at : ℕ → List Bool → List ℕ → List ℕ → Found = λ a b c d. record { rule = a; reversed = b; nodes = c; edges = d } in
    ap (λ a. at a ds ns xs) p ∙ ap (λ b. at s b ns xs) q ∙ ap (λ c. at s es c xs) u ∙ ap (λ d. at s es ms d) v

found_same : (m k : Found) → IsHeld m → IsHeld k → found_words m ≡ found_words k → m ≡ k
found_same m k h j e =
    let a = h.rule in
    let b = j.rule in
    let rule = decimal_injective m.rule k.rule (omega arith) (omega arith) (ap (λ ws. head_word (rest_of ws)) e) in
    let behind = nodes_same m.nodes k.nodes _ _ h.nodes j.nodes (ap (λ ws. rest_of (rest_of (rest_of ws))) e) in
    let images = images_same m.edges k.edges m.reversed k.reversed h.directions j.directions h.edges j.edges behind.1 in
    made_same m.rule k.rule m.reversed k.reversed m.nodes k.nodes m.edges k.edges rule images.1 behind.0 images.0

abbrev first_byte : List (List ℕ) → ℕ
first_byte ws = first_of (head_word ws)

pub item_same : (i j : Item) → CanBeHeld i → CanBeHeld j → item_words i ≡ item_words j → i ≡ j
item_same (Stepped m) (Stepped k) h l e = ap Stepped (found_same m k h l e)
item_same (Stepped m) Turned h l e = absurd (let f : 115 ≡ 116 = ap first_byte e in omega arith)
item_same (Stepped m) (Back k) h l e = absurd (let f : 115 ≡ 98 = ap first_byte e in omega arith)
item_same Turned (Stepped k) h l e = absurd (let f : 116 ≡ 115 = ap first_byte e in omega arith)
item_same Turned Turned h l e = refl
item_same Turned (Back k) h l e = absurd (let f : 116 ≡ 98 = ap first_byte e in omega arith)
item_same (Back n) (Stepped k) h l e = absurd (let f : 98 ≡ 115 = ap first_byte e in omega arith)
item_same (Back n) Turned h l e = absurd (let f : 98 ≡ 116 = ap first_byte e in omega arith)
item_same (Back n) (Back k) h l e = ap Back (decimal_injective n k h l (ap (λ ws. head_word (rest_of ws)) e))

-- ---- lines

-- a line and what stands behind it
pub line_is : (i : Item) (more : List ℕ) → item_line i ++ more ≡ join_with_byte 32 (item_words i) ++ (10 ∷ more)
line_is i more = append_assoc (join_with_byte 32 (item_words i)) (codes "\n") more

pub line_same : (i j : Item) (r s : List ℕ) → CanBeHeld i → CanBeHeld j → item_line i ++ r ≡ item_line j ++ s → (i ≡ j) × (r ≡ s)
line_same i j r s h k e =
    let c = cut_same 10 _ _ r s (feedless i h) (feedless j k) (sym (line_is i r) ∙ e ∙ line_is j s) in
    (item_same i j h k (sym (words_back i h) ∙ ap (slice_split (λ b. b == 32)) c.0 ∙ words_back j k), c.1)

not_less : (a b : ℕ) → a ≡ b → a < b → ⊥
not_less a b e h = omega arith

pub not_end : (i : Item) (r s : List ℕ) → item_line i ++ r ≡ codes "end\n" ++ s → ⊥
not_end (Stepped m) r s e = not_less 101 115 (sym (ap first_of e)) (lit< tt)
not_end Turned r s e = not_less 101 116 (sym (ap first_of e)) (lit< tt)
not_end (Back k) r s e = not_less 98 101 (ap first_of e) (lit< tt)

-- no line of an item stands here
abbrev pub IsItemless : List ℕ → Type 0
IsItemless text = (i : Item) (more : List ℕ) → CanBeHeld i → text ≡ item_line i ++ more → ⊥

pub end_itemless : (s : List ℕ) → IsItemless (codes "end\n" ++ s)
end_itemless s i more h e = not_end i more s (sym e)

pub lines_same : (s t : List Item) (p q : List ℕ) → All CanBeHeld s → All CanBeHeld t → IsItemless p → IsItemless q → item_lines s ++ p ≡ item_lines t ++ q → (s ≡ t) × (p ≡ q)
lines_same [] [] p q h k a b e = (refl, e)
lines_same [] (j ∷ t) p q h k a b e = absurd (a j (item_lines t ++ q) (all_head CanBeHeld j t k) (e ∙ append_assoc (item_line j) (item_lines t) q))
lines_same (i ∷ s) [] p q h k a b e = absurd (b i (item_lines s ++ p) (all_head CanBeHeld i s h) (sym e ∙ append_assoc (item_line i) (item_lines s) p))
lines_same (i ∷ s) (j ∷ t) p q h k a b e =
    let now = line_same i j (item_lines s ++ p) (item_lines t ++ q) (all_head CanBeHeld i s h) (all_head CanBeHeld j t k) (sym (append_assoc (item_line i) (item_lines s) p) ∙ e ∙ append_assoc (item_line j) (item_lines t) q) in
    let rest = lines_same s t p q (all_tail CanBeHeld i s h) (all_tail CanBeHeld j t k) a b now.1 in
    (ap (λ x. x ∷ s) now.0 ∙ ap (λ l. j ∷ l) rest.0, rest.1)
