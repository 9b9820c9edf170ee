-- A text is that of a trace, or breaks at a line.
use Rattle.std.proofs.Common.{◌≡◌, ◌⊎◌, inl, inr, ℕ, zero, suc, ◌+◌, ◌<◌, ◌^◌, Bool, true, false, List, [], ◌∷◌, ◌++◌, length, map, take, drop, refl, sym, ap, subst, ◌∙◌, arith, decimal, append_assoc, append-nil, length-drop}
use Rattle.std.specs.Prelude.{◌==◌, All, codes, if◌then◌else◌}
use Rattle.std.specs.List.{slice_split}
use Rattle.std.specs.Str.{bytes_eq}
use Rattle.std.proofs.Math.Seq.{take-append_seam}
use Rattle.std.proofs.lemmas.Bool.{eqb-true, cases_eq}
use Rattle.std.proofs.lemmas.List.{length-map, take-append-drop}
use Rattle.std.proofs.lemmas.List.Elements.{All-cons}
use Rattle.std.proofs.lemmas.Slice.Eq.{bytes_eq-Decides}
use Rattle.gp_syntax.specs.Images.{EdgeImage}
use Rattle.gp_syntax.specs.Rule.{Found}
use Rattle.gp_syntax.specs.Run.{Item, Stepped, Turned, Back}
use Rattle.gp_trace.specs.declared.version.Version.{Version}
use Rattle.gp_trace.specs.declared.version.Version.TheVariants.{One, Two}
use Rattle.gp_trace.specs.TraceText.{image_word, images_of, header}
use Rattle.gp_trace.specs.Reading.{IsNumber, CanBeHeld, IsTraceOf, BreaksAt}
use Rattle.gp_trace.specs.inside.Lines.{item_lines, EndsLine, EndsNoLine, AreLinesOf, LinesStop, LinesGoOn}
use Rattle.gp_trace.specs.inside.Words.{SpellsFound, SpellsNoFound, SpellsBack, SpellsNoBack, SpellsItem, SpellsNoItem, IsLineOf, IsLineOfNone}
use Rattle.gp_trace.proofs.Bytes.{rest_of}
use Rattle.gp_trace.proofs.Items.{all_head, all_tail, head_word, not_word}
use Rattle.gp_trace.proofs.WordFacts.{images_numbers, images_back, images_of_numbers, no_item, line_of_item, line_of_none}
use Rattle.gp_trace.proofs.LineFacts.{HasRead, read_more, read_stop, read_out}

-- ---- words

same_or_not : (w v : List ℕ) → (w ≡ v) ⊎ (w ≡ v → ⊥)
same_or_not w v = by (bytes_eq w v) refl
  where
    by : (b : Bool) → bytes_eq w v ≡ b → (w ≡ v) ⊎ (w ≡ v → ⊥)
    by true h = inl ((bytes_eq-Decides w v).0 h)
    by false h = inr (λ e. let t : bytes_eq w v ≡ true = (bytes_eq-Decides w v).1 e in absurd cc)

-- some number below the bound prints the word, with what stands behind it, or none does
number_below : (w tail : List ℕ) (b : ℕ) → ((n : ℕ) × (decimal n ++ tail ≡ w) × (n < b)) ⊎ ((n : ℕ) → decimal n ++ tail ≡ w → n < b → ⊥)
number_below w tail zero = inr (λ n e l. omega arith)
number_below w tail (suc b) =
    elim (number_below w tail b) [
      | inl f ↦ inl (f.0, f.1, (let l = f.2 in omega arith))
      | inr none ↦ elim (same_or_not (decimal b ++ tail) w) [
        | inl e ↦ inl (b, e, omega arith)
        | inr not ↦ inr (λ n e l. elim (cases_eq n b) [
          | inl same ↦ not (subst (λ k. decimal k ++ tail ≡ w) same e)
          | inr apart ↦ none n e (omega arith)
        ])
      ]
    ]

-- a word of something, or of nothing
abbrev IsOf : {A : Type 0} → (A → List ℕ) → (A → Type 0) → List ℕ → Type 0
IsOf {A} f P w = ((x : A) × (f x ≡ w) × P x) ⊎ ((x : A) → f x ≡ w → P x → ⊥)

below_or_not : (b : ℕ) (w : List ℕ) → IsOf decimal (λ n. n < b) w
below_or_not b w =
    elim (number_below w [] b) [
      | inl f ↦ inl (f.0, sym (append-nil (decimal f.0)) ∙ f.1, f.2)
      | inr none ↦ inr (λ n e l. none n (append-nil (decimal n) ∙ e) l)
    ]

number_or_not : (w : List ℕ) → IsOf decimal IsNumber w
number_or_not w = below_or_not (2 ^ 64) w

no_image : (w : List ℕ) → ((n : ℕ) → decimal n ++ [] ≡ w → IsNumber n → ⊥) → ((n : ℕ) → decimal n ++ codes "~" ≡ w → IsNumber n → ⊥) → (n : ℕ) (b : Bool) → decimal n ++ (if b then codes "~" else []) ≡ w → IsNumber n → ⊥
no_image w plain turned n true e l = turned n e l
no_image w plain turned n false e l = plain n e l

abbrev HasNumber : EdgeImage → Type 0
HasNumber i = IsNumber i.number

image_or_not : (w : List ℕ) → IsOf image_word HasNumber w
image_or_not w =
    elim (number_below w [] (2 ^ 64)) [
      | inl f ↦ inl (record { number = f.0; reversed = false }, f.1, f.2)
      | inr plain ↦ elim (number_below w (codes "~") (2 ^ 64)) [
        | inl f ↦ inl (record { number = f.0; reversed = true }, f.1, f.2)
        | inr turned ↦ inr (λ i e l. no_image w plain turned i.number i.reversed e l)
      ]
    ]

-- ---- lists of words

all_none : {A : Type 0} (P : A → Type 0) → All P []
all_none P k d b = absurd (omega arith)

abbrev AreOf : {A : Type 0} → (A → List ℕ) → (A → Type 0) → List (List ℕ) → Type 0
AreOf {A} f P ws = ((xs : List A) × (map f xs ≡ ws) × All P xs) ⊎ ((xs : List A) → map f xs ≡ ws → All P xs → ⊥)

module _ {A : Type 0} (f : A → List ℕ) (P : A → Type 0) (one : (w : List ℕ) → IsOf f P w) where
  none_first : (w : List ℕ) (ws : List (List ℕ)) → ((x : A) → f x ≡ w → P x → ⊥) → (xs : List A) → map f xs ≡ w ∷ ws → All P xs → ⊥
  none_first w ws none [] e h = absurd cc
  none_first w ws none (x ∷ xs) e h = none x (ap head_word e) (all_head P x xs h)

  none_behind : (w : List ℕ) (ws : List (List ℕ)) → ((xs : List A) → map f xs ≡ ws → All P xs → ⊥) → (xs : List A) → map f xs ≡ w ∷ ws → All P xs → ⊥
  none_behind w ws none [] e h = absurd cc
  none_behind w ws none (x ∷ xs) e h = none xs (ap rest_of e) (all_tail P x xs h)

  all_or_not : (ws : List (List ℕ)) → AreOf f P ws
  all_or_not [] = inl ([], refl, all_none P)
  all_or_not (w ∷ ws) =
      elim (one w) [
        | inl x ↦ elim (all_or_not ws) [
          | inl xs ↦ inl (x.0 ∷ xs.0, (λ k. x.1 k ∷ xs.1 k), All-cons P x.0 xs.0 x.2 xs.2)
          | inr none ↦ inr (none_behind w ws none)
        ]
        | inr none ↦ inr (none_first w ws none)
      ]

-- ---- matches

-- the words of nodes and edges
record Ends (ws : List (List ℕ)) (nodes : List ℕ) (images : List EdgeImage) : Type 0 where
  words : map decimal nodes ++ (codes "edges" ∷ map image_word images) ≡ ws
  nodes_held : All IsNumber nodes
  images_held : All HasNumber images

abbrev EndsSo : List (List ℕ) → Type 0
EndsSo ws = ((nodes : List ℕ) × (images : List EdgeImage) × Ends ws nodes images) ⊎ ((nodes : List ℕ) (images : List EdgeImage) → Ends ws nodes images → ⊥)

no_words : (nodes : List ℕ) (images : List EdgeImage) → Ends [] nodes images → ⊥
no_words [] images h = let e = h.words in absurd cc
no_words (n ∷ nodes) images h = let e = h.words in absurd cc

no_images : (w : List ℕ) (ws : List (List ℕ)) → w ≡ codes "edges" → ((is : List EdgeImage) → map image_word is ≡ ws → All HasNumber is → ⊥) → (nodes : List ℕ) (images : List EdgeImage) → Ends (w ∷ ws) nodes images → ⊥
no_images w ws same none [] images h = none images (ap rest_of h.words) h.images_held
no_images w ws same none (n ∷ nodes) images h = not_word n (codes "edges") (all_head IsNumber n nodes h.nodes_held) refl (ap head_word h.words ∙ same)

no_number : (w : List ℕ) (ws : List (List ℕ)) → (w ≡ codes "edges" → ⊥) → ((n : ℕ) → decimal n ≡ w → IsNumber n → ⊥) → (nodes : List ℕ) (images : List EdgeImage) → Ends (w ∷ ws) nodes images → ⊥
no_number w ws other none [] images h = other (sym (ap head_word h.words))
no_number w ws other none (n ∷ nodes) images h = none n (ap head_word h.words) (all_head IsNumber n nodes h.nodes_held)

none_on : (w : List ℕ) (ws : List (List ℕ)) → (w ≡ codes "edges" → ⊥) → ((nodes : List ℕ) (images : List EdgeImage) → Ends ws nodes images → ⊥) → (nodes : List ℕ) (images : List EdgeImage) → Ends (w ∷ ws) nodes images → ⊥
none_on w ws other none [] images h = other (sym (ap head_word h.words))
none_on w ws other none (n ∷ nodes) images h = none nodes images (record { words = ap rest_of h.words; nodes_held = all_tail IsNumber n nodes h.nodes_held; images_held = h.images_held })

ends_or_not : (ws : List (List ℕ)) → EndsSo ws
ends_or_not [] = inr no_words
ends_or_not (w ∷ ws) =
    elim (same_or_not w (codes "edges")) [
      | inl same ↦ elim (all_or_not image_word HasNumber image_or_not ws) [
        | inl is ↦ inl ([], is.0, record { words = (λ k. sym same k ∷ is.1 k); nodes_held = all_none IsNumber; images_held = is.2 })
        | inr none ↦ inr (no_images w ws same none)
      ]
      | inr other ↦ elim (number_or_not w) [
        | inl n ↦ elim (ends_or_not ws) [
          | inl t ↦ inl (n.0 ∷ t.0, t.1, record { words = (λ k. n.1 k ∷ t.2.words k); nodes_held = All-cons IsNumber n.0 t.0 n.2 t.2.nodes_held; images_held = t.2.images_held })
          | inr none ↦ inr (none_on w ws other none)
        ]
        | inr none ↦ inr (no_number w ws other none)
      ]
    ]

abbrev IsFoundOrNot : List (List ℕ) → Type 0
IsFoundOrNot ws = ((m : Found) × SpellsFound ws m) ⊎ SpellsNoFound ws

made : (a b c : List ℕ) (ws : List (List ℕ)) (rule : ℕ) (nodes : List ℕ) (images : List EdgeImage) → a ≡ codes "step" → decimal rule ≡ b → rule < 2 ^ 32 → c ≡ codes "nodes" → Ends ws nodes images → (m : Found) × SpellsFound (a ∷ (b ∷ (c ∷ ws))) m
made a b c ws rule nodes images ea eb small ec ends = (
  record { rule = rule; reversed = map (λ (i : EdgeImage). i.reversed) images; nodes = nodes; edges = map (λ (i : EdgeImage). i.number) images },
  record {
    words = ap (λ is. codes "step" ∷ (decimal rule ∷ (codes "nodes" ∷ (map decimal nodes ++ (codes "edges" ∷ map image_word is))))) (images_back images) ∙ (λ k. sym ea k ∷ (eb k ∷ (sym ec k ∷ ends.words k)));
    held = record {
      rule = small;
      nodes = ends.nodes_held;
      edges = images_numbers images ends.images_held;
      directions = length-map images (λ (i : EdgeImage). i.reversed) ∙ sym (length-map images (λ (i : EdgeImage). i.number));
    };
  },
)

found_or_not : (ws : List (List ℕ)) → IsFoundOrNot ws
found_or_not [] = inr (λ m h. let e = h.words in absurd cc)
found_or_not (a ∷ []) = inr (λ m h. let e = ap rest_of h.words in absurd cc)
found_or_not (a ∷ b ∷ []) = inr (λ m h. let e = ap (λ ws. rest_of (rest_of ws)) h.words in absurd cc)
found_or_not (a ∷ b ∷ c ∷ ws) =
    elim (same_or_not a (codes "step")) [
      | inl ea ↦ elim (below_or_not (2 ^ 32) b) [
        | inl rule ↦ elim (same_or_not c (codes "nodes")) [
          | inl ec ↦ elim (ends_or_not ws) [
            | inl t ↦ inl (made a b c ws rule.0 t.0 t.1 ea rule.1 rule.2 ec t.2)
            | inr none ↦ inr (λ m h. none m.nodes (images_of m.edges m.reversed)
                (record { words = ap (λ vs. rest_of (rest_of (rest_of vs))) h.words; nodes_held = h.held.nodes; images_held = images_of_numbers m.edges m.reversed h.held.edges }))
          ]
          | inr other ↦ inr (λ m h. other (sym (ap (λ vs. head_word (rest_of (rest_of vs))) h.words)))
        ]
        | inr none ↦ inr (λ m h. none m.rule (ap (λ vs. head_word (rest_of vs)) h.words) h.held.rule)
      ]
      | inr other ↦ inr (λ m h. other (sym (ap head_word h.words)))
    ]

-- ---- items and lines

turn_or_not : (ws : List (List ℕ)) → (ws ≡ codes "turn" ∷ []) ⊎ (ws ≡ codes "turn" ∷ [] → ⊥)
turn_or_not [] = inr (λ e. absurd cc)
turn_or_not (w ∷ []) = elim (same_or_not w (codes "turn")) [ inl e ↦ inl (ap (λ v. v ∷ []) e) | inr other ↦ inr (λ e. other (ap head_word e)) ]
turn_or_not (w ∷ v ∷ ws) = inr (λ e. let f = ap rest_of e in absurd cc)

back_or_not : (ws : List (List ℕ)) → ((k : ℕ) × SpellsBack ws k) ⊎ SpellsNoBack ws
back_or_not [] = inr (λ k h. let e = h.words in absurd cc)
back_or_not (a ∷ []) = inr (λ k h. let e = ap rest_of h.words in absurd cc)
back_or_not (a ∷ b ∷ []) =
    elim (same_or_not a (codes "back")) [
      | inl ea ↦ elim (number_or_not b) [
        | inl n ↦ inl (n.0, record { words = (λ k. sym ea k ∷ (n.1 k ∷ [])); number = n.2 })
        | inr none ↦ inr (λ k h. none k (ap (λ vs. head_word (rest_of vs)) h.words) h.number)
      ]
      | inr other ↦ inr (λ k h. other (sym (ap head_word h.words)))
    ]
back_or_not (a ∷ b ∷ c ∷ ws) = inr (λ k h. let e = ap (λ vs. rest_of (rest_of vs)) h.words in absurd cc)

item_or_not : (ws : List (List ℕ)) → ((i : Item) × SpellsItem ws i) ⊎ SpellsNoItem ws
item_or_not ws =
    elim (turn_or_not ws) [
      | inl e ↦ inl (Turned, record { words = sym e; held = tt })
      | inr turn ↦ elim (back_or_not ws) [
        | inl k ↦ inl (Back k.0, record { words = k.1.words; held = k.1.number })
        | inr back ↦ elim (found_or_not ws) [
          | inl m ↦ inl (Stepped m.0, record { words = m.1.words; held = m.1.held })
          | inr found ↦ inr (no_item ws turn back found)
        ]
      ]
    ]

line_or_not : (line : List ℕ) → ((i : Item) × IsLineOf line i) ⊎ IsLineOfNone line
line_or_not line =
    let ws = slice_split (λ b. b == 32) line in
    elim (item_or_not ws) [
      | inl i ↦ inl (i.0, line_of_item line ws i.0 refl i.1)
      | inr none ↦ inr (line_of_none line ws refl none)
    ]

-- ---- the lines of a text

ends_behind : (x : ℕ) (xs : List ℕ) (i : ℕ) → (x == 10) ≡ false → EndsLine xs i → EndsLine (x ∷ xs) (suc i)
ends_behind x xs i off e = record {
  within = (let l = e.within in omega arith);
  cut = (let s : suc i + 1 ≡ suc (i + 1) = omega arith in rw s (ap (λ l. x ∷ l) e.cut));
  line = All-cons (λ b. (b == 10) ≡ false) x (take i xs) off e.line;
}

feed_or_not : (text : List ℕ) → ((i : ℕ) × EndsLine text i) ⊎ EndsNoLine text
feed_or_not [] = inr (all_none (λ b. (b == 10) ≡ false))
feed_or_not (x ∷ xs) = by (x == 10) refl (feed_or_not xs)
  where
    by : (b : Bool) → (x == 10) ≡ b → ((i : ℕ) × EndsLine xs i) ⊎ EndsNoLine xs → ((i : ℕ) × EndsLine (x ∷ xs) i) ⊎ EndsNoLine (x ∷ xs)
    by true e more = inl (0, record { within = omega arith; cut = ap (λ y. y ∷ xs) (eqb-true x 10 e); line = all_none (λ b. (b == 10) ≡ false) })
    by false e more =
        elim more [
          | inl i ↦ inl (suc i.0, ends_behind x xs i.0 e i.1)
          | inr none ↦ inr (All-cons (λ b. (b == 10) ≡ false) x xs e none)
        ]

abbrev HasLines : List ℕ → Type 0
HasLines text = ((t : List Item) × AreLinesOf text t) ⊎ ((n : ℕ) × (LinesStop text n ⊎ LinesGoOn text n))

at_end : (text : List ℕ) (items : List Item) (rest more : List ℕ) → HasRead text items rest → rest ≡ codes "end\n" ++ more → HasLines text
at_end text items rest [] was e = inl (items, record { text_is = was.begins ∙ ap (λ l. item_lines items ++ l) e; held = was.held })
at_end text items rest (x ∷ xs) was e =
    inr (length items + 3, inr (record { items = items; rest = x ∷ xs; held = was.held; begins = was.begins ∙ ap (λ l. item_lines items ++ l) e; more = λ k. absurd cc; line = refl }))

lines_on : (most : ℕ) (text : List ℕ) (items : List Item) (rest : List ℕ) → length rest < most → HasRead text items rest → HasLines text
lines_on zero text items rest l was = absurd (omega arith)
lines_on (suc most) text items rest l was =
    elim (feed_or_not rest) [
      | inl i ↦ elim (same_or_not (take i.0 rest) (codes "end")) [
        | inl e ↦ at_end text items rest (drop (i.0 + 1) rest) was (i.1.cut ∙ ap (λ v. v ++ (10 ∷ drop (i.0 + 1) rest)) e)
        | inr other ↦ elim (line_or_not (take i.0 rest)) [
          | inl item ↦ lines_on most text (items ++ item.0 ∷ []) (drop (i.0 + 1) rest) (let d = length-drop (i.0 + 1) rest in let b = i.1.within in omega arith) (read_more text items rest i.0 item.0 was i.1 item.1)
          | inr none ↦ inr (length items + 2, inl (read_stop text items rest i.0 (length items + 2) was i.1 other none refl))
        ]
      ]
      | inr none ↦ inr (length items + 2, inl (read_out text items rest (length items + 2) was none refl))
    ]

lines : (text : List ℕ) → HasLines text
lines text = lines_on (suc (length text)) text [] text (omega arith) (record { begins = refl; held = all_none CanBeHeld })

-- ---- the header

prefix_or_not : (front text : List ℕ) → ((rest : List ℕ) × (text ≡ front ++ rest)) ⊎ ((rest : List ℕ) → text ≡ front ++ rest → ⊥)
prefix_or_not front text =
    elim (same_or_not (take (length front) text) front) [
      | inl e ↦ inl (drop (length front) text, sym (take-append-drop (length front) text) ∙ ap (λ v. v ++ drop (length front) text) e)
      | inr other ↦ inr (λ rest e. other (ap (take (length front)) e ∙ take-append_seam front rest))
    ]

abbrev Told : List ℕ → Type 0
Told text = ((version : Version) × (t : List Item) × IsTraceOf text version t) ⊎ ((n : ℕ) × BreaksAt text n)

behind_header : (text : List ℕ) (version : Version) (rest : List ℕ) → text ≡ header version ++ rest → Told text
behind_header text version rest e =
    elim (lines rest) [
      | inl t ↦ inl (version, t.0, record { text_is = e ∙ ap (λ l. header version ++ l) t.1.text_is; held = t.1.held })
      | inr b ↦ elim b.1 [
        | inl s ↦ inr (
          b.0,
          inr (inl (record {
            version = version;
            items = s.items;
            rest = s.rest;
            held = s.held;
            begins = e ∙ ap (λ l. header version ++ l) s.begins;
            no_item = s.no_item;
            no_end = s.no_end;
            line = s.line;
          })),
        )
        | inr s ↦ inr (
          b.0,
          inr (inr (record {
            version = version;
            items = s.items;
            rest = s.rest;
            held = s.held;
            begins = e ∙ ap (λ l. header version ++ l) (s.begins ∙ sym (append_assoc (item_lines s.items) (codes "end\n") s.rest)) ∙ sym (append_assoc (header version) (item_lines s.items ++ codes "end\n") s.rest);
            more = s.more;
            line = s.line;
          })),
        )
      ]
    ]

no_header : (text : List ℕ) → ((rest : List ℕ) → text ≡ header One ++ rest → ⊥) → ((rest : List ℕ) → text ≡ header Two ++ rest → ⊥) → (version : Version) (rest : List ℕ) → text ≡ header version ++ rest → ⊥
no_header text one two One = one
no_header text one two Two = two

pub some : (text : List ℕ) → Told text
some text =
    elim (prefix_or_not (header One) text) [
      | inl r ↦ behind_header text One r.0 r.1
      | inr one ↦ elim (prefix_or_not (header Two) text) [
        | inl r ↦ behind_header text Two r.0 r.1
        | inr two ↦ inr (1, inl (record { none = no_header text one two; line = refl }))
      ]
    ]
