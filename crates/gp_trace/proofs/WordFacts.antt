-- Words that are read.
use Rattle.std.proofs.Common.{◌≡◌, ℕ, zero, suc, ◌+◌, ◌<◌, ◌≤◌, Bool, true, false, List, [], ◌∷◌, ◌++◌, length, map, take, drop, get_or, refl, sym, ap, subst, ◌∙◌, arith, decimal, append-nil, Bor}
use Rattle.std.specs.Prelude.{◌==◌, All, Option, Some, None, Result, Ok, Err, IfOk, MatchBool, slice_get, codes, MatchOption, IsTrue, if◌then◌else◌}
use Rattle.std.specs.Bool.{Decides}
use Rattle.std.specs.List.{slice_split, join_with_byte}
use Rattle.std.proofs.lemmas.Option.{same_Some}
use Rattle.std.specs.Str.Parse.{ParsesUnsigned}
use Rattle.std.specs.Cmp.Lexicographic.{pointwise}
use Rattle.std.proofs.Math.Dec.{eqb}
use Rattle.std.proofs.lemmas.Slice.Eq.{slice_eq-Decides}
use Rattle.std.proofs.lemmas.Bool.Decides.{Decides-eqb}
use Rattle.std.proofs.lemmas.Fmt.{decimal_injective, parse-decimal}
use Rattle.std.proofs.lemmas.List.{append_cancel_right, length-map, take-map, drop-map}
use Rattle.std.proofs.lemmas.List.Splits.{join_with_byte-slice_split}
use Rattle.gp_memory.proofs.Basics.{map_append, within_of}
use Rattle.gp_syntax.specs.Images.{EdgeImage}
use Rattle.gp_syntax.specs.declared.found.Item.{Item as Recorded}
use Rattle.gp_syntax.specs.Tree.{item_of}
use Rattle.gp_syntax.specs.Rule.{Found}
use Rattle.gp_syntax.specs.Run.{Item, Stepped, Turned, Back}
use Rattle.gp_trace.specs.TraceText.{image_word, images_of}
use Rattle.gp_trace.specs.Reading.{IsNumber}
use Rattle.gp_trace.specs.inside.Words.{SpellsNumber, SpellsNoNumber, SpellsImage, SpellsNoImage, SpellsNoNumbers, SpellsNoImages, PutsNodes, PutsEdges, SpellsFound, SpellsNoFound, SpellsNoBack, SpellsItem, SpellsNoItem, IsLineOf, IsLineOfNone, StandsFirst, StandsNowhere, HasFrame}
use Rattle.gp_trace.proofs.Items.{all_head, all_tail, not_word, words_back}

-- the texts of words
abbrev pub texts : List (Bor (List ℕ)) → List (List ℕ)
texts ws = map (λ (w : Bor (List ℕ)). w.now) ws

pub text_at : (ws : List (Bor (List ℕ))) (k : ℕ) (d : Bor (List ℕ)) → k < length ws → slice_get (texts ws) k ≡ Some ((get_or ws k d).now)
text_at [] k d b = absurd (omega arith)
text_at (w ∷ ws) zero d b = refl
text_at (w ∷ ws) (suc k) d b = text_at ws k d (omega arith)

pub word_is_by : (ws : List (Bor (List ℕ))) (k : ℕ) (d : Bor (List ℕ)) (w : List ℕ) (b : Bool) → k < length ws → Decides b ((get_or ws k d).now ≡ w) → (IsTrue b → slice_get (texts ws) k ≡ Some w) × (slice_get (texts ws) k ≡ Some w → IsTrue b)
word_is_by ws k d w b h decides = (λ t. text_at ws k d h ∙ ap Some (decides.0 t), λ e. decides.1 (same_Some _ _ (sym (text_at ws k d h) ∙ e)))

-- ---- the first place of a word

pub first_here : (ws : List (List ℕ)) (w : List ℕ) (i : ℕ) → slice_get ws i ≡ Some w → ((k : ℕ) → k < i → slice_get ws k ≡ Some w → ⊥) → StandsFirst ws w i
first_here ws w i h before = record { within = within_of ws i w h; at = h; not_before = before }

-- ---- short lists

pub one_word : (ws : List (List ℕ)) (w : List ℕ) → length ws ≡ 1 → slice_get ws 0 ≡ Some w → ws ≡ w ∷ []
one_word [] w l h = absurd cc
one_word (v ∷ []) w l h = ap (λ u. u ∷ []) (same_Some v w h)
one_word (v ∷ u ∷ ws) w l h = absurd (omega arith)

-- ---- numbers and images

pub number_is : (w : List ℕ) (n m : ℕ) → SpellsNumber w n → SpellsNumber w m → n ≡ m
number_is w n m h k = decimal_injective n m h.number k.number (h.word ∙ sym k.word)

image_tail_some : (w x : List ℕ) (i : EdgeImage) → w ≡ x ++ codes "~" → SpellsNumber x i.number → i.reversed ≡ true → SpellsImage w i
image_tail_some w x i e h r = record { word = ap (λ b. decimal i.number ++ (if b then codes "~" else [])) r ∙ ap (λ l. l ++ codes "~") h.word ∙ sym e; number = h.number }

image_tail_none : (w x : List ℕ) (n : ℕ) (b : Bool) → SpellsNoNumber w → SpellsNoNumber x → w ≡ x ++ codes "~" → IsNumber n → decimal n ++ (if b then codes "~" else []) ≡ w → ⊥
image_tail_none w x n true hw hx e k h = hx n (record { word = append_cancel_right (decimal n) x (codes "~") (h ∙ e); number = k })
image_tail_none w x n false hw hx e k h = hw n (record { word = sym (append-nil (decimal n)) ∙ h; number = k })

pub image_tail : (w x : List ℕ) (o : Option EdgeImage) → SpellsNoNumber w → w ≡ x ++ codes "~" → MatchOption o (SpellsNoNumber x) (λ i. SpellsNumber x i.number × (i.reversed ≡ true)) → MatchOption o (SpellsNoImage w) (SpellsImage w)
image_tail w x None hw e h = λ i k. image_tail_none w x i.number i.reversed hw h e k.number k.word
image_tail w x (Some i) hw e h = image_tail_some w x i e h.0 h.1

-- ---- lists of words

take_more : {A : Type 0} (xs : List A) (k : ℕ) (x : A) → slice_get xs k ≡ Some x → take (k + 1) xs ≡ take k xs ++ x ∷ []
take_more [] k x h = absurd cc
take_more (y ∷ xs) zero x h = ap (λ z. z ∷ []) (same_Some y x h)
take_more (y ∷ xs) (suc k) x h = let e : suc k + 1 ≡ suc (k + 1) = omega arith in rw e (ap (λ l. y ∷ l) (take_more xs k x h))

all_more : {A : Type 0} (P : A → Type 0) (xs : List A) (x : A) → All P xs → P x → All P (xs ++ x ∷ [])
all_more P [] x h p zero d b = p
all_more P [] x h p (suc k) d b = absurd (omega arith)
all_more P (y ∷ xs) x h p zero d b = h 0 y (omega arith)
all_more P (y ∷ xs) x h p (suc k) d b = all_more P xs x (all_tail P y xs h) p k d (omega arith)

pub nodes_more : (ws : List (List ℕ)) (k : ℕ) (w : List ℕ) (n : ℕ) (m0 m : Found) → slice_get ws k ≡ Some w → SpellsNumber w n → PutsNodes (take k ws) m0 m
    → (m' : Found) → m' ≡ record m { nodes = m.nodes ++ n ∷ [] } → PutsNodes (take (k + 1) ws) m0 m'
nodes_more ws k w n m0 m at h was m' e =
    let done : PutsNodes (take (k + 1) ws) m0 (record m { nodes = m.nodes ++ n ∷ [] }) = record {
      spells = record {
        words = map_append decimal m.nodes (n ∷ []) ∙ ap (λ l. l ++ decimal n ∷ []) was.spells.words ∙ ap (λ v. take k ws ++ v ∷ []) h.word ∙ sym (take_more ws k w at);
        numbers = all_more IsNumber m.nodes n was.spells.numbers h.number;
      };
      rule = was.rule;
      edges = was.edges;
      reversed = was.reversed;
    } in subst (PutsNodes (take (k + 1) ws) m0) (sym e) done

numbers_at : (ns : List ℕ) (k : ℕ) (w : List ℕ) → All IsNumber ns → slice_get (map decimal ns) k ≡ Some w → (n : ℕ) × SpellsNumber w n
numbers_at [] k w h e = absurd cc
numbers_at (n ∷ ns) zero w h e = (n, record { word = same_Some _ _ e; number = all_head IsNumber n ns h })
numbers_at (n ∷ ns) (suc k) w h e = numbers_at ns k w (all_tail IsNumber n ns h) e

pub no_nodes : (ws : List (List ℕ)) (k : ℕ) (w : List ℕ) → slice_get ws k ≡ Some w → SpellsNoNumber w → SpellsNoNumbers ws
no_nodes ws k w at none ns h = let x = numbers_at ns k w h.numbers (ap (λ l. slice_get l k) h.words ∙ at) in none x.0 x.1

pub edges_more : (ws : List (List ℕ)) (k : ℕ) (w : List ℕ) (i : EdgeImage) (m0 m : Found) → slice_get ws k ≡ Some w → SpellsImage w i → PutsEdges (take k ws) m0 m
    → (m' : Found) → m' ≡ record m { edges = m.edges ++ i.number ∷ []; reversed = m.reversed ++ i.reversed ∷ [] } → PutsEdges (take (k + 1) ws) m0 m'
edges_more ws k w i m0 m at h was m' e =
    let done : PutsEdges (take (k + 1) ws) m0 (record m { edges = m.edges ++ i.number ∷ []; reversed = m.reversed ++ i.reversed ∷ [] }) = record {
      images = was.images ++ i ∷ [];
      spells = record {
        words = map_append image_word was.images (i ∷ []) ∙ ap (λ l. l ++ image_word i ∷ []) was.spells.words ∙ ap (λ v. take k ws ++ v ∷ []) h.word ∙ sym (take_more ws k w at);
        numbers = all_more (λ (j : EdgeImage). IsNumber j.number) was.images i was.spells.numbers h.number;
      };
      edges = ap (λ l. l ++ i.number ∷ []) was.edges ∙ sym (map_append (λ (j : EdgeImage). j.number) was.images (i ∷ []));
      reversed = ap (λ l. l ++ i.reversed ∷ []) was.reversed ∙ sym (map_append (λ (j : EdgeImage). j.reversed) was.images (i ∷ []));
      rule = was.rule;
      nodes = was.nodes;
    } in subst (PutsEdges (take (k + 1) ws) m0) (sym e) done

images_at : (is : List EdgeImage) (k : ℕ) (w : List ℕ) → All (λ (j : EdgeImage). IsNumber j.number) is → slice_get (map image_word is) k ≡ Some w → (i : EdgeImage) × SpellsImage w i
images_at [] k w h e = absurd cc
images_at (i ∷ is) zero w h e = (i, record { word = same_Some _ _ e; number = all_head (λ (j : EdgeImage). IsNumber j.number) i is h })
images_at (i ∷ is) (suc k) w h e = images_at is k w (all_tail (λ (j : EdgeImage). IsNumber j.number) i is h) e

pub no_edges : (ws : List (List ℕ)) (k : ℕ) (w : List ℕ) → slice_get ws k ≡ Some w → SpellsNoImage w → SpellsNoImages ws
no_edges ws k w at none is h = let x = images_at is k w h.numbers (ap (λ l. slice_get l k) h.words ∙ at) in none x.0 x.1

-- ---- matches

three_words : (ws : List (List ℕ)) (a b c : List ℕ) → slice_get ws 0 ≡ Some a → slice_get ws 1 ≡ Some b → slice_get ws 2 ≡ Some c → a ∷ (b ∷ (c ∷ drop 3 ws)) ≡ ws
three_words [] a b c h k l = absurd cc
three_words (x ∷ []) a b c h k l = absurd cc
three_words (x ∷ y ∷ []) a b c h k l = absurd cc
three_words (x ∷ y ∷ z ∷ ws) a b c h k l =
    sym (ap (λ u. u ∷ (y ∷ (z ∷ ws))) (same_Some x a h) ∙ ap (λ u. a ∷ (u ∷ (z ∷ ws))) (same_Some y b k) ∙ ap (λ u. a ∷ (b ∷ (u ∷ ws))) (same_Some z c l))

parted : {A : Type 0} (xs : List A) (k : ℕ) (x : A) → slice_get xs k ≡ Some x → take k xs ++ (x ∷ drop (k + 1) xs) ≡ xs
parted [] k x h = absurd cc
parted (y ∷ xs) zero x h = ap (λ z. z ∷ xs) (sym (same_Some y x h))
parted (y ∷ xs) (suc k) x h = let e : suc k + 1 ≡ suc (k + 1) = omega arith in rw e (ap (λ l. y ∷ l) (parted xs k x h))

pub images_numbers : (is : List EdgeImage) → All (λ (j : EdgeImage). IsNumber j.number) is → All IsNumber (map (λ (j : EdgeImage). j.number) is)
images_numbers [] h k d b = absurd (omega arith)
images_numbers (i ∷ is) h zero d b = h 0 i (omega arith)
images_numbers (i ∷ is) h (suc k) d b = images_numbers is (all_tail (λ (j : EdgeImage). IsNumber j.number) i is h) k d (omega arith)

pub images_back : (is : List EdgeImage) → images_of (map (λ (i : EdgeImage). i.number) is) (map (λ (i : EdgeImage). i.reversed) is) ≡ is
images_back [] = refl
images_back (i ∷ is) = ap (λ l. i ∷ l) (images_back is)

pub found_read : (ws : List (List ℕ)) (rule end : ℕ) (m0 m1 m : Found) → HasFrame ws rule end → m0.rule ≡ rule → PutsNodes (take end (drop 3 ws)) m0 m1 → PutsEdges (drop (end + 1) (drop 3 ws)) m1 m → SpellsFound ws m
found_read ws rule end m0 m1 m frame is0 nodes edges =
    let is : m.rule ≡ rule = edges.rule ∙ nodes.rule ∙ is0 in
    let images : images_of m.edges m.reversed ≡ edges.images = ap (λ es. images_of es m.reversed) edges.edges ∙ ap (images_of _) edges.reversed ∙ images_back edges.images in
    let small = frame.rule_fits in
    record {
      words = ap (λ n. codes "step" ∷ (decimal n ∷ (codes "nodes" ∷ (map decimal m.nodes ++ (codes "edges" ∷ map image_word (images_of m.edges m.reversed)))))) is
          ∙ ap (λ ns. codes "step" ∷ (decimal rule ∷ (codes "nodes" ∷ (ns ++ (codes "edges" ∷ map image_word (images_of m.edges m.reversed)))))) (ap (map decimal) edges.nodes ∙ nodes.spells.words)
          ∙ ap (λ es. codes "step" ∷ (decimal rule ∷ (codes "nodes" ∷ (take end (drop 3 ws) ++ (codes "edges" ∷ es))))) (ap (map image_word) images ∙ edges.spells.words)
          ∙ ap (λ l. codes "step" ∷ (decimal rule ∷ (codes "nodes" ∷ l))) (parted (drop 3 ws) end (codes "edges") frame.edges.at)
          ∙ three_words ws (codes "step") (decimal rule) (codes "nodes") frame.step frame.rule_word frame.nodes;
      held = record {
        rule = omega arith;
        nodes = subst (All IsNumber) (sym edges.nodes) nodes.spells.numbers;
        edges = subst (All IsNumber) (sym edges.edges) (images_numbers edges.images edges.spells.numbers);
        directions = ap length edges.reversed ∙ length-map edges.images (λ (i : EdgeImage). i.reversed) ∙ sym (length-map edges.images (λ (i : EdgeImage). i.number)) ∙ ap length (sym edges.edges);
      };
    }

first_split : (ns : List ℕ) (xs : List (List ℕ)) (k : ℕ) → All IsNumber ns → StandsFirst (map decimal ns ++ (codes "edges" ∷ xs)) (codes "edges") k
    → (take k (map decimal ns ++ (codes "edges" ∷ xs)) ≡ map decimal ns) × (drop (k + 1) (map decimal ns ++ (codes "edges" ∷ xs)) ≡ xs)
first_split [] xs zero h s = (refl, refl)
first_split [] xs (suc k) h s = absurd (s.not_before 0 (omega arith) refl)
first_split (n ∷ ns) xs zero h s = absurd (not_word n (codes "edges") (all_head IsNumber n ns h) refl (same_Some _ _ s.at))
first_split (n ∷ ns) xs (suc k) h s =
    let in_tail : StandsFirst (map decimal ns ++ (codes "edges" ∷ xs)) (codes "edges") k = record { within = (let b = s.within in omega arith); at = s.at; not_before = λ j b e. s.not_before (suc j) (omega arith) e } in
    let rest = first_split ns xs k (all_tail IsNumber n ns h) in_tail in
    let e : suc k + 1 ≡ suc (k + 1) = omega arith in
    (ap (λ l. decimal n ∷ l) rest.0, rw e rest.1)

-- the words behind the first three of a match that is spelled
behind_three : (ws : List (List ℕ)) (m : Found) → SpellsFound ws m → drop 3 ws ≡ map decimal m.nodes ++ (codes "edges" ∷ map image_word (images_of m.edges m.reversed))
behind_three ws m h = ap (drop 3) (sym h.words)

found_split : (ws : List (List ℕ)) (rule end : ℕ) (m : Found) → HasFrame ws rule end → SpellsFound ws m
    → (take end (drop 3 ws) ≡ map decimal m.nodes) × (drop (end + 1) (drop 3 ws) ≡ map image_word (images_of m.edges m.reversed))
found_split ws rule end m frame h =
    let e = behind_three ws m h in
    let s = first_split m.nodes _ end h.held.nodes (subst (λ l. StandsFirst l (codes "edges") end) e frame.edges) in
    (ap (take end) e ∙ s.0, ap (drop (end + 1)) e ∙ s.1)

pub images_of_numbers : (es : List ℕ) (rs : List Bool) → All IsNumber es → All (λ (j : EdgeImage). IsNumber j.number) (images_of es rs)
images_of_numbers [] rs h k d b = absurd (omega arith)
images_of_numbers (e ∷ es) [] h k d b = absurd (omega arith)
images_of_numbers (e ∷ es) (r ∷ rs) h zero d b = h 0 e (omega arith)
images_of_numbers (e ∷ es) (r ∷ rs) h (suc k) d b = images_of_numbers es rs (all_tail IsNumber e es h) k d (omega arith)

pub no_found_nodes : (ws : List (List ℕ)) (rule end : ℕ) → HasFrame ws rule end → SpellsNoNumbers (take end (drop 3 ws)) → SpellsNoFound ws
no_found_nodes ws rule end frame none m h = none m.nodes (record { words = sym (found_split ws rule end m frame h).0; numbers = h.held.nodes })

pub no_found_edges : (ws : List (List ℕ)) (rule end : ℕ) → HasFrame ws rule end → SpellsNoImages (drop (end + 1) (drop 3 ws)) → SpellsNoFound ws
no_found_edges ws rule end frame none m h = none (images_of m.edges m.reversed) (record { words = sym (found_split ws rule end m frame h).1; numbers = images_of_numbers m.edges m.reversed h.held.edges })

edges_stand : (ns : List ℕ) (xs : List (List ℕ)) → slice_get (map decimal ns ++ (codes "edges" ∷ xs)) (length ns) ≡ Some (codes "edges")
edges_stand [] xs = refl
edges_stand (n ∷ ns) xs = edges_stand ns xs

pub no_found_edges_word : (ws : List (List ℕ)) → StandsNowhere (drop 3 ws) (codes "edges") → SpellsNoFound ws
no_found_edges_word ws none m h = none (length m.nodes) (ap (λ l. slice_get l (length m.nodes)) (behind_three ws m h) ∙ edges_stand m.nodes _)

-- ---- items and lines

pub no_item : (ws : List (List ℕ)) → (ws ≡ codes "turn" ∷ [] → ⊥) → SpellsNoBack ws → SpellsNoFound ws → SpellsNoItem ws
no_item ws turn back found (Stepped m) h = found m (record { words = h.words; held = h.held })
no_item ws turn back found Turned h = turn (sym h.words)
no_item ws turn back found (Back k) h = back k (record { words = h.words; number = h.held })

pub line_of_item : (line : List ℕ) (ws : List (List ℕ)) (i : Item) → ws ≡ slice_split (λ b. b == 32) line → SpellsItem ws i → IsLineOf line i
line_of_item line ws i e h = record { text = ap (join_with_byte 32) (h.words ∙ e) ∙ join_with_byte-slice_split 32 line; held = h.held }

pub line_of_none : (line : List ℕ) (ws : List (List ℕ)) → ws ≡ slice_split (λ b. b == 32) line → SpellsNoItem ws → IsLineOfNone line
line_of_none line ws e none i h = none i (record { words = sym (words_back i h.held) ∙ ap (slice_split (λ b. b == 32)) h.text ∙ sym e; held = h.held })

-- ---- numbers that are not read

abbrev value_or_zero : {E : Type 0} → Result ℕ E → ℕ
value_or_zero (Ok n) = n
value_or_zero (Err e) = 0

pub number_refused : (w text : List ℕ) (n : ℕ) → SpellsNumber w n → text ≡ w → (let r : Result ℕ (Unit {0}) = Err tt in ParsesUnsigned 64 10 text r) → ⊥
number_refused w text n h same p =
    let r : Result ℕ (Unit {0}) = Err tt in
    let q : Result ℕ (Unit {0}) = Ok n in
    let e : r ≡ q = parse-decimal 64 n text r h.number h.number (same ∙ sym h.word) p in
    absurd cc

pub number_other : (w text : List ℕ) (n m : ℕ) (shown : List ℕ) (b : Bool) → SpellsNumber w n → text ≡ w → (let r : Result ℕ (Unit {0}) = Ok m in ParsesUnsigned 64 10 text r) → shown ≡ decimal m → b ≡ false → b ≡ pointwise eqb shown text → ⊥
number_other w text n m shown b h same p printed off e =
    let r : Result ℕ (Unit {0}) = Ok m in
    let s : m ≡ n = ap value_or_zero (parse-decimal 64 n text r h.number h.number (same ∙ sym h.word) p) in
    let t : b ≡ true = (slice_eq-Decides Decides-eqb shown text b e).1 (printed ∙ ap decimal s ∙ h.word ∙ sym same) in
    absurd (let u : true ≡ false = sym t ∙ off in cc)

pub rule_too_large : (w : List ℕ) (n m limit : ℕ) → n < limit → decimal n ≡ w → SpellsNumber w m → limit ≤ m → ⊥
rule_too_large w n m limit small e h large =
    let top = h.number in
    let s : n ≡ m = number_is w n m (record { word = e; number = omega arith }) h in
    omega arith

-- ---- answers

pub turn_is : (ws : List (List ℕ)) (w : List ℕ) (b : Bool) → length ws ≡ 1 → (IsTrue b → slice_get ws 0 ≡ Some w) → (slice_get ws 0 ≡ Some w → IsTrue b) → (IsTrue b → ws ≡ w ∷ []) × (ws ≡ w ∷ [] → IsTrue b)
turn_is ws w b l to from = (λ t. one_word ws w l (to t), λ s. from (ap (λ v. slice_get v 0) s))

pub on_true : (P Q : Type 0) (b : Bool) → b ≡ true → MatchBool b P Q → P
on_true P Q true e h = h
on_true P Q false e h = absurd cc

pub on_false : (P Q : Type 0) (b : Bool) → b ≡ false → MatchBool b P Q → Q
on_false P Q true e h = absurd cc
on_false P Q false e h = h

pub at_none : {A : Type 0} (P : Type 0) (Q : A → Type 0) (o : Option A) → o ≡ None → MatchOption o P Q → P
at_none P Q o e h = subst (λ v. MatchOption v P Q) e h

pub at_some : {A : Type 0} (P : Type 0) (Q : A → Type 0) (o : Option A) (x : A) → o ≡ Some x → MatchOption o P Q → Q x
at_some P Q o x e h = subst (λ v. MatchOption v P Q) e h

pub texts_front : (ws : List (Bor (List ℕ))) (end : ℕ) → texts (take end (drop 3 ws)) ≡ take end (drop 3 (texts ws))
texts_front ws end = sym (take-map (λ (w : Bor (List ℕ)). w.now) end (drop 3 ws)) ∙ ap (take end) (sym (drop-map (λ (w : Bor (List ℕ)). w.now) 3 ws))

pub texts_behind : (ws : List (Bor (List ℕ))) (k : ℕ) → texts (drop k (drop 3 ws)) ≡ drop k (drop 3 (texts ws))
texts_behind ws k = sym (drop-map (λ (w : Bor (List ℕ)). w.now) k (drop 3 ws)) ∙ ap (drop k) (sym (drop-map (λ (w : Bor (List ℕ)). w.now) 3 ws))

spelled : (line : List ℕ) (ws : List (List ℕ)) (o : Option Recorded) → ws ≡ slice_split (λ b. b == 32) line → MatchOption o (SpellsNoItem ws) (λ i. SpellsItem ws (item_of i)) → MatchOption o (IsLineOfNone line) (λ i. IsLineOf line (item_of i))
spelled line ws None e h = line_of_none line ws e h
spelled line ws (Some i) e h = line_of_item line ws (item_of i) e h

pub spelled_ok : {E : Type 0} (r : Result (Option Recorded) E) (line : List ℕ) (ws : List (List ℕ)) → ws ≡ slice_split (λ b. b == 32) line → IfOk r (λ o. MatchOption o (SpellsNoItem ws) (λ i. SpellsItem ws (item_of i)))
    → IfOk r (λ o. MatchOption o (IsLineOfNone line) (λ i. IsLineOf line (item_of i)))
spelled_ok (Ok o) line ws e h = spelled line ws o e h
spelled_ok (Err x) line ws e h = tt
