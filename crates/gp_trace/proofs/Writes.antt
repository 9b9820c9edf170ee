-- What is written for items.
use Rattle.std.proofs.Common.{◌≡◌, ℕ, suc, zero, ◌+◌, ◌<◌, ◌≤◌, ◌^◌, get_or, arith, List, [], ◌∷◌, ◌++◌, map, take, length, refl, sym, ap, subst, ◌∙◌, decimal, append_assoc, append-nil}
use Rattle.std.specs.Prelude.{All, codes, flat_map, Result, Ok, Err, OnErr}
use Rattle.std.specs.List.{join_with_byte}
use Rattle.std.proofs.lemmas.List.{take_all, length-map}
use Rattle.std.proofs.lemmas.List.Elements.{All-map}
use Rattle.gp_syntax.specs.Images.{EdgeImage}
use Rattle.gp_syntax.specs.Rule.{Found}
use Rattle.gp_trace.specs.TraceText.{image_word, images_of, found_line, trace_text}
use Rattle.gp_syntax.specs.Run.{Item}
use Rattle.gp_trace.specs.Reading.{IsNumber, IsHeld, BeginsTrace}
use Rattle.gp_trace.specs.inside.Lines.{spaced}

pub joined_spaced : (w : List ℕ) (ws : List (List ℕ)) → join_with_byte 32 (w ∷ ws) ≡ w ++ spaced ws
joined_spaced w [] = sym (append-nil w)
joined_spaced w (v ∷ ws) = ap (λ l. w ++ (32 ∷ l)) (joined_spaced v ws)

pub spaced_append : (vs ws : List (List ℕ)) → spaced (vs ++ ws) ≡ spaced vs ++ spaced ws
spaced_append [] ws = refl
spaced_append (v ∷ vs) ws = ap (λ l. (32 ∷ v) ++ l) (spaced_append vs ws) ∙ sym (append_assoc (32 ∷ v) (spaced vs) (spaced ws))

pub images_back : (is : List EdgeImage) → images_of (map (λ (i : EdgeImage). i.number) is) (map (λ (i : EdgeImage). i.reversed) is) ≡ is
images_back [] = refl
images_back (i ∷ is) = ap (λ l. i ∷ l) (images_back is)

-- the line of a match, piece by piece
pub found_pieces : (m : Found) → found_line m ≡ codes "step " ++ (decimal m.rule ++ (codes " nodes" ++ (spaced (map decimal m.nodes) ++ (codes " edges" ++ (spaced (map image_word (images_of m.edges m.reversed)) ++ codes "\n")))))
found_pieces m =
    let images = map image_word (images_of m.edges m.reversed) in
    let nodes = map decimal m.nodes in
    let tail = codes "nodes" ∷ (nodes ++ (codes "edges" ∷ images)) in
    ap (λ l. l ++ codes "\n") (joined_spaced (codes "step") (decimal m.rule ∷ tail))
    ∙ ap (λ l. codes "step " ++ l)
    (append_assoc (decimal m.rule) (spaced tail) (codes "\n")
    ∙ ap (λ l. decimal m.rule ++ (codes " nodes" ++ l))
    (ap (λ l. l ++ codes "\n") (spaced_append nodes (codes "edges" ∷ images))
    ∙ append_assoc (spaced nodes) (spaced (codes "edges" ∷ images)) (codes "\n")))

-- one more element, behind those before it
more_at : {A B : Type 0} (f : B → List ℕ) (g : A → B) (xs : List A) (k : ℕ) (d : A) → k < length xs
    → flat_map f (map g (take (suc k) xs)) ≡ flat_map f (map g (take k xs)) ++ f (g (get_or xs k d))
more_at f g [] k d b = absurd (omega arith)
more_at f g (x ∷ xs) zero d b = append-nil (f (g x))
more_at f g (x ∷ xs) (suc k) d b =
    ap (λ l. f (g x) ++ l) (more_at f g xs k d (omega arith)) ∙ sym (append_assoc (f (g x)) (flat_map f (map g (take k xs))) (f (g (get_or xs k d))))

pub one_more : {A B : Type 0} (f : B → List ℕ) (g : A → B) (xs : List A) (k : ℕ) (d : A) → k < length xs
    → flat_map f (map g (take (k + 1) xs)) ≡ flat_map f (map g (take k xs)) ++ f (g (get_or xs k d))
one_more f g xs k d b =
    let e : k + 1 ≡ suc k = omega arith in
    ap (λ j. flat_map f (map g (take j xs))) e ∙ more_at f g xs k d b

pub all_of : {A B : Type 0} (f : B → List ℕ) (g : A → B) (xs : List A) (k : ℕ) → length xs ≤ k → flat_map f (map g xs) ≡ flat_map f (map g (take k xs))
all_of f g xs k b = ap (λ l. flat_map f (map g l)) (sym (take_all k xs b))

pub line_of_pieces : (m : Found) (images : List EdgeImage) (rule : ℕ) (nodes : List ℕ) → map (λ (i : EdgeImage). i.number) images ≡ m.edges → map (λ (i : EdgeImage). i.reversed) images ≡ m.reversed → rule ≡ m.rule → nodes ≡ m.nodes
    → codes "step " ++ (decimal rule ++ (codes " nodes" ++ (spaced (map decimal nodes) ++ (codes " edges" ++ (spaced (map image_word images) ++ codes "\n"))))) ≡ found_line m
line_of_pieces m images rule nodes he hr h hn =
    let is : images ≡ images_of m.edges m.reversed = sym (images_back images) ∙ ap (λ es. images_of es (map (λ (i : EdgeImage). i.reversed) images)) he ∙ ap (λ rs. images_of m.edges rs) hr in
    ap (λ is. codes "step " ++ (decimal rule ++ (codes " nodes" ++ (spaced (map decimal nodes) ++ (codes " edges" ++ (spaced (map image_word is) ++ codes "\n")))))) is
    ∙ ap (λ n. codes "step " ++ (decimal n ++ (codes " nodes" ++ (spaced (map decimal nodes) ++ (codes " edges" ++ (spaced (map image_word (images_of m.edges m.reversed)) ++ codes "\n")))))) h
    ∙ ap (λ ns. codes "step " ++ (decimal m.rule ++ (codes " nodes" ++ (spaced (map decimal ns) ++ (codes " edges" ++ (spaced (map image_word (images_of m.edges m.reversed)) ++ codes "\n")))))) hn
    ∙ sym (found_pieces m)

-- ---- what can be held

pub all_held : {A : Type 0} (P : A → Type 0) (xs : List A) (k : ℕ) → length xs ≤ k → All P (take k xs) → All P xs
all_held P xs k b h = subst (All P) (take_all k xs b) h

pub found_held : (m : Found) (images : List EdgeImage) (nodes : List ℕ) → map (λ (i : EdgeImage). i.number) images ≡ m.edges → map (λ (i : EdgeImage). i.reversed) images ≡ m.reversed → nodes ≡ m.nodes
    → m.rule < 2 ^ 32 → All IsNumber nodes → All (λ (i : EdgeImage). IsNumber i.number) images → IsHeld m
found_held m images nodes he hr hn rule numbers held = record {
  rule = rule;
  nodes = subst (All IsNumber) hn numbers;
  edges = subst (All IsNumber) he (All-map IsNumber (λ (i : EdgeImage). i.number) images held);
  directions = ap length (sym hr) ∙ length-map images (λ (i : EdgeImage). i.reversed) ∙ sym (length-map images (λ (i : EdgeImage). i.number)) ∙ ap length he;
}

-- what was refused before anything was written
pub nothing_written : {T E : Type 0} (r : Result T E) (items : List Item) (before after : List ℕ) → after ≡ before → OnErr r (BeginsTrace items before after)
nothing_written (Ok x) items before after e = tt
nothing_written (Err y) items before after e = record { piece = []; rest = trace_text items; after_is = e ∙ sym (append-nil before); begins = refl }
