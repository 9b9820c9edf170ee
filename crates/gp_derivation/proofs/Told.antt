-- What the lines of a script come to.
use Rattle.std.proofs.Common.{inl, inr, ◌≡◌, ℕ, suc, ◌+◌, ◌<◌, ◌≤◌, List, [], ◌∷◌, ◌++◌, length, drop, get_or, drop-cons, refl, sym, ap, subst, ◌∙◌, arith, append_assoc, append-nil}
use Rattle.std.specs.Prelude.{◌⊎◌, ◌↔◌, Some, slice_get, option_map}
use Rattle.std.proofs.lemmas.Option.{slice_get-map, slice_get_past, slice_get_cases}
use Rattle.std.proofs.lemmas.List.{length-map, drop_all}
use Rattle.gp_values.specs.Graph.{Graph}
use Rattle.gp_syntax.specs.Rule.{Rule}
use Rattle.gp_syntax.specs.Run as meant
use Rattle.gp_syntax.specs.Tree.{item_of}
use Rattle.gp_syntax.specs.declared.found.Item.{Item}
use Rattle.gp_journal.specs.Trail.{root_of, fresh}
use Rattle.gp_journal.specs.Journal.{items_of}
use Rattle.gp_hostfile.specs.GraphText.{IsGraphText, WritesGraph}
use Rattle.gp_derivation.specs.Stepper.{Stepper, IsStepperOf, IsMoved, before_first}
use Rattle.gp_derivation.specs.declared.stepper.Moved.{Moved}
use Rattle.gp_derivation.specs.declared.stepper.Moved.TheVariants as moves
use Rattle.gp_derivation.proofs.Unique.{all_replay}
use Rattle.gp_derivation.specs.declared.line.Line.{Line}
use Rattle.gp_derivation.specs.declared.line.Line.TheVariants.{Forward, Back, Show}
use Rattle.gp_derivation.specs.declared.walker.Walker.{Walker}
use Rattle.gp_derivation.specs.Walk.{Walks, end_text, start_text, place_text}
use Rattle.gp_derivation.specs.Walk.Walks.{ends, goes_over, is_at_end, goes_back, is_at_start, looks}
use Rattle.gp_derivation.specs.inside.Told.{item_text, Follows}

-- ---- steppers

here : (rules : List Rule) (s : Stepper) → IsStepperOf rules s → IsMoved rules s s s.place
here rules s h = record { items = refl; root = refl; place_is = refl; of_rules = h }

stayed : (rules : List Rule) (s t : Stepper) → t ≡ s → IsStepperOf rules s → IsMoved rules s t t.place
stayed rules s t e h = subst (λ (u : Stepper). IsMoved rules s u u.place) (sym e) (here rules s h)

where_it_is : (rules : List Rule) (s t : Stepper) (n : ℕ) → IsMoved rules s t n → IsMoved rules s t t.place
where_it_is rules s t n m = record { items = m.items; root = m.root; place_is = refl; of_rules = m.of_rules }

item_here : (items : List Item) (n : ℕ) (i : Item) → slice_get items n ≡ Some i → slice_get (items_of items) n ≡ Some (item_of i)
item_here items n i e = slice_get-map item_of items n ∙ ap (option_map item_of) e

-- ---- one line

module _ (rules : List Rule) (v w : Walker) where
  abbrev Before : ℕ → List Line → List ℕ → Type 0
  Before = Walks rules (root_of v.stepper.trail) (items_of v.stepper.items)

  over_item : (i : Item) → slice_get v.stepper.items v.stepper.place ≡ Some i → w.text.items ≡ v.text.items ++ item_text (slice_get v.stepper.items v.stepper.place)
      → IsMoved rules v.stepper w.stepper (v.stepper.place + 1) → Follows rules Forward v w
  over_item i e told moved = record {
    piece = item_text (Some i);
    told = told ∙ ap (λ o. v.text.items ++ item_text o) e;
    moved = where_it_is rules v.stepper w.stepper (v.stepper.place + 1) moved;
    walks = λ lines rest h. goes_over (item_here v.stepper.items v.stepper.place i e) (subst (λ n. Before n lines rest) moved.place_is h);
  }

  at_end : IsStepperOf rules v.stepper → w.text.items ≡ v.text.items ++ item_text (slice_get v.stepper.items v.stepper.place) → v.stepper.place ≡ length v.stepper.items → w.stepper ≡ v.stepper → Follows rules Forward v w
  at_end of_rules told place stays = record {
    piece = end_text;
    told = told ∙ ap (λ o. v.text.items ++ item_text o) (slice_get_past v.stepper.items v.stepper.place (omega arith));
    moved = stayed rules v.stepper w.stepper stays of_rules;
    walks = λ lines rest h. is_at_end (place ∙ sym (length-map v.stepper.items item_of)) (subst (λ (s : Stepper). Before s.place lines rest) stays h);
  }

  pub goes_forward : (moved : Moved) → (moved ≡ moves.Made) ⊎ (moved ≡ moves.End) → IsStepperOf rules v.stepper → w.text.items ≡ v.text.items ++ item_text (slice_get v.stepper.items v.stepper.place)
      → (moved ≡ moves.Made → IsMoved rules v.stepper w.stepper (v.stepper.place + 1)) → ((moved ≡ moves.End) ↔ (v.stepper.place ≡ length v.stepper.items)) → (moved ≡ moves.End → w.stepper ≡ v.stepper) → Follows rules Forward v w
  goes_forward moved is of_rules told made end stays =
      elim is [
        | inl m ↦ (elim (slice_get_cases v.stepper.items v.stepper.place).1 [
          | inl x ↦ over_item x.0 x.2 told (made m)
          | inr x ↦ absurd (let within = of_rules.within in let e : moved ≡ moves.End = end.1 (omega arith) in let d : moves.Made ≡ moves.End = sym m ∙ e in cc)
        ])
        | inr m ↦ at_end of_rules told (end.0 m) (stays m)
      ]

  pub goes_back_to : w.text.items ≡ v.text.items ++ place_text w.stepper.place → w.stepper.place + 1 ≡ v.stepper.place → IsMoved rules v.stepper w.stepper w.stepper.place → Follows rules Back v w
  goes_back_to told place moved = record {
    piece = place_text w.stepper.place;
    told = told;
    moved = moved;
    walks = λ lines rest h. subst (λ n. Before n (Back ∷ lines) (place_text w.stepper.place ++ rest)) place (goes_back h);
  }

  pub at_first : IsStepperOf rules v.stepper → w.text.items ≡ v.text.items ++ start_text → v.stepper.place ≡ 0 → w.stepper ≡ v.stepper → Follows rules Back v w
  at_first of_rules told place stays = record {
    piece = start_text;
    told = told;
    moved = stayed rules v.stepper w.stepper stays of_rules;
    walks = λ lines rest h.
        subst (λ n. Before n (Back ∷ lines) (start_text ++ rest)) (sym place) (is_at_start (subst (λ n. Before n lines rest) (ap (λ (s : Stepper). s.place) stays ∙ place) h));
  }

  pub shows : IsStepperOf rules v.stepper → (g : Graph) → WritesGraph g v.text.items w.text.items → g ≡ v.stepper.trail.graph → w.stepper ≡ v.stepper → Follows rules Show v w
  shows of_rules g writes is stays = record {
    piece = writes.text;
    told = writes.gained;
    moved = stayed rules v.stepper w.stepper stays of_rules;
    walks = λ lines rest h.
        looks (all_replay rules v.stepper of_rules) (subst (λ k. IsGraphText k writes.text) is writes.is_text) (subst (λ (s : Stepper). Before s.place lines rest) stays h);
  }

-- ---- the lines so far

-- The walker has followed the first n lines: whatever the others come to from its place, the script comes to what was told
-- and that.
pub record IsOnItsWay (rules : List Rule) (host : Graph) (t : List meant.Item) (script : List Line) (n : ℕ) (w : Walker) : Type 0 where
  pub of_rules : IsStepperOf rules w.stepper
  pub root : root_of w.stepper.trail ≡ host
  pub items : items_of w.stepper.items ≡ t
  pub walks : (rest : List ℕ) → Walks rules host t w.stepper.place (drop n script) rest → Walks rules host t 0 script (w.text.items ++ rest)

pub sets_out : (rules : List Rule) (host : Graph) (is : List Item) (script : List Line) (w : Walker) → w.stepper ≡ before_first (fresh host) is → IsStepperOf rules w.stepper → w.text.items ≡ []
    → IsOnItsWay rules host (items_of is) script 0 w
sets_out rules host is script w started of_rules empty = record {
  of_rules = of_rules;
  root = ap (λ (s : Stepper). root_of s.trail) started;
  items = ap (λ (s : Stepper). items_of s.items) started;
  walks = λ rest h.
      subst (λ l. Walks rules host (items_of is) 0 script (l ++ rest)) (sym empty)
      (subst (λ (s : Stepper). Walks rules host (items_of is) s.place script rest) started h);
}

pub goes_on : (rules : List Rule) (host : Graph) (t : List meant.Item) (script : List Line) (n : ℕ) (line d : Line) (v w : Walker) → n < length script → line ≡ get_or script n d
    → IsOnItsWay rules host t script n v → Follows rules line v w → IsOnItsWay rules host t script (n + 1) w
goes_on rules host t script n line d v w b is was f = record {
  of_rules = f.moved.of_rules;
  root = f.moved.root ∙ was.root;
  items = ap items_of f.moved.items ∙ was.items;
  walks = λ rest h.
      let from : Walks rules (root_of v.stepper.trail) (items_of v.stepper.items) w.stepper.place (drop (n + 1) script) rest =
      subst (λ g. Walks rules g (items_of v.stepper.items) w.stepper.place (drop (n + 1) script) rest) (sym was.root)
      (subst (λ is. Walks rules host is w.stepper.place (drop (n + 1) script) rest) (sym was.items) h) in
      let line_first : Walks rules host t v.stepper.place (line ∷ drop (n + 1) script) (f.piece ++ rest) =
      subst (λ g. Walks rules g t v.stepper.place (line ∷ drop (n + 1) script) (f.piece ++ rest)) was.root
      (subst (λ is. Walks rules (root_of v.stepper.trail) is v.stepper.place (line ∷ drop (n + 1) script) (f.piece ++ rest)) was.items (f.walks (drop (n + 1) script) rest from)) in
      let next : line ∷ drop (n + 1) script ≡ drop n script =
      ap (λ l. l ∷ drop (n + 1) script) is ∙ ap (λ k. get_or script n d ∷ drop k script) (let e : n + 1 ≡ suc n = omega arith in e) ∙ sym (drop-cons script n d b) in
      subst (λ l. Walks rules host t 0 script l) (sym (append_assoc v.text.items f.piece rest) ∙ ap (λ l. l ++ rest) (sym f.told))
      (was.walks (f.piece ++ rest) (subst (λ ls. Walks rules host t v.stepper.place ls (f.piece ++ rest)) next line_first));
}

pub has_walked : (rules : List Rule) (host : Graph) (t : List meant.Item) (script : List Line) (n : ℕ) (w : Walker) → length script ≤ n → IsOnItsWay rules host t script n w → Walks rules host t 0 script w.text.items
has_walked rules host t script n w b was =
    subst (λ l. Walks rules host t 0 script l) (append-nil w.text.items)
    (was.walks [] (subst (λ ls. Walks rules host t w.stepper.place ls []) (sym (drop_all n script b)) ends))
