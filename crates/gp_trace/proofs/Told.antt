-- A text tells its items, and where it breaks.
use Rattle.std.proofs.Common.{inl, inr, ◌≡◌, ℕ, ◌+◌, List, [], ◌++◌, length, slice_index, refl, sym, ap, ◌∙◌, arith, append_assoc}
use Rattle.std.specs.Prelude.{All, codes}
use Rattle.std.proofs.lemmas.List.{append_cancel_left}
use Rattle.gp_syntax.specs.Run.{Item}
use Rattle.gp_trace.specs.declared.version.Version.{Version}
use Rattle.gp_trace.specs.declared.version.Version.TheVariants.{One, Two}
use Rattle.gp_trace.specs.TraceText.{header}
use Rattle.gp_trace.specs.Reading.{CanBeHeld, IsTraceOf, StopsShort, GoesOn, BreaksAt}
use Rattle.gp_trace.specs.Laws.{BreaksAreTold}
use Rattle.gp_trace.specs.inside.Lines.{item_lines}
use Rattle.gp_trace.proofs.Items.{IsItemless, end_itemless, lines_same}
use Rattle.gp_trace.proofs.Existing.{some}

-- a first line is that of one version
same_header : (v w : Version) (a b : List ℕ) → header v ++ a ≡ header w ++ b → (v ≡ w) × (a ≡ b)
same_header One One a b e = (refl, append_cancel_left (codes "gp2-trace 1\n") a b e)
same_header One Two a b e = let d : ◌≡◌ {A = ℕ} 49 50 = ap (λ l. slice_index l 10) e in absurd (omega arith)
same_header Two One a b e = let d : ◌≡◌ {A = ℕ} 50 49 = ap (λ l. slice_index l 10) e in absurd (omega arith)
same_header Two Two a b e = (refl, append_cancel_left (codes "gp2-trace 2\n") a b e)

-- behind the header, the lines and what stands behind them
behind : (v w : Version) (s t : List Item) (p q : List ℕ) → All CanBeHeld s → All CanBeHeld t → IsItemless p → IsItemless q
    → header v ++ (item_lines s ++ p) ≡ header w ++ (item_lines t ++ q) → (s ≡ t) × (p ≡ q)
behind v w s t p q h k a b e = lines_same s t p q h k a b (same_header v w _ _ e).1

no_more : IsItemless (codes "end\n")
no_more = end_itemless []

pub told : (text : List ℕ) (v w : Version) (s t : List Item) → IsTraceOf text v s → IsTraceOf text w t → (v ≡ w) × (s ≡ t)
told text v w s t h k =
    let e = sym h.text_is ∙ k.text_is in
    ((same_header v w _ _ e).0, (behind v w s t (codes "end\n") (codes "end\n") h.held k.held no_more no_more e).0)

-- a text that goes on, in the form of the others
going : (text : List ℕ) (n : ℕ) (b : GoesOn text n) → text ≡ header b.version ++ (item_lines b.items ++ (codes "end\n" ++ b.rest))
going text n b =
    b.begins ∙ append_assoc (header b.version) (item_lines b.items ++ codes "end\n") b.rest
    ∙ ap (λ l. header b.version ++ l) (append_assoc (item_lines b.items) (codes "end\n") b.rest)

short_short : (text : List ℕ) (m n : ℕ) → StopsShort text m → StopsShort text n → m ≡ n
short_short text m n a b =
    let s = (behind a.version b.version a.items b.items a.rest b.rest a.held b.held a.no_item b.no_item (sym a.begins ∙ b.begins)).0 in
    a.line ∙ ap (λ l. length l + 2) s ∙ sym b.line

short_on : (text : List ℕ) (m n : ℕ) → StopsShort text m → GoesOn text n → ⊥
short_on text m n a b =
    a.no_end b.rest (behind a.version b.version a.items b.items a.rest (codes "end\n" ++ b.rest) a.held b.held a.no_item (end_itemless b.rest) (sym a.begins ∙ going text n b)).1

on_on : (text : List ℕ) (m n : ℕ) → GoesOn text m → GoesOn text n → m ≡ n
on_on text m n a b =
    let s = (behind a.version b.version a.items b.items (codes "end\n" ++ a.rest) (codes "end\n" ++ b.rest) a.held b.held (end_itemless a.rest) (end_itemless b.rest) (sym (going text m a) ∙ going text n b)).0 in
    a.line ∙ ap (λ l. length l + 3) s ∙ sym b.line

one : (text : List ℕ) (m n : ℕ) → BreaksAt text m → BreaksAt text n → m ≡ n
one text m n a b =
    elim a [
      | inl x ↦ (elim b [
        | inl y ↦ x.line ∙ sym y.line
        | inr y ↦ (elim y [ inl z ↦ absurd (x.none z.version _ z.begins) | inr z ↦ absurd (x.none z.version _ (going text n z)) ])
      ])
      | inr x ↦ (elim x [
        | inl u ↦ (elim b [
          | inl y ↦ absurd (y.none u.version _ u.begins)
          | inr y ↦ (elim y [ inl z ↦ short_short text m n u z | inr z ↦ absurd (short_on text m n u z) ])
        ])
        | inr u ↦ (elim b [
          | inl y ↦ absurd (y.none u.version _ (going text m u))
          | inr y ↦ (elim y [ inl z ↦ absurd (short_on text n m z u) | inr z ↦ on_on text m n u z ])
        ])
      ])
    ]

none : (text : List ℕ) (v : Version) (t : List Item) (n : ℕ) → IsTraceOf text v t → BreaksAt text n → ⊥
none text v t n h b =
    elim b [
      | inl x ↦ x.none v _ h.text_is
      | inr x ↦ (elim x [
        | inl u ↦ u.no_end [] ((behind u.version v u.items t u.rest (codes "end\n") u.held h.held u.no_item no_more (sym u.begins ∙ h.text_is)).1)
        | inr u ↦ u.more (append_cancel_left (codes "end\n") u.rest []
            ((behind u.version v u.items t (codes "end\n" ++ u.rest) (codes "end\n") u.held h.held (end_itemless u.rest) no_more (sym (going text n u) ∙ h.text_is)).1))
      ])
    ]

pub breaks_told : (text : List ℕ) → BreaksAreTold text
breaks_told text = record { some = some text; one = one text; none = none text }
