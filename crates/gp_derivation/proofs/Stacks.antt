-- Live steps and items, one more at a time and taken back.
use Rattle.std.proofs.Common.{◌≡◌, ℕ, zero, suc, ◌+◌, ◌-◌, ◌≤◌, List, [], ◌∷◌, ◌++◌, length, take, sym, subst, ap, refl, ◌∙◌, arith, length-append}
use Rattle.std.specs.Prelude.{Option, Some, slice_get}
use Rattle.gp_memory.proofs.Basics.{no_more, one_less, take_long, take_short}
use Rattle.gp_values.specs.Graph.{Graph}
use Rattle.gp_syntax.specs.declared.found.Item.{Item as ItemTree}
use Rattle.gp_syntax.specs.Rule.{Rule, Found}
use Rattle.gp_syntax.specs.Step.{Step}
use Rattle.gp_syntax.specs.Run.{Item, Stepped, Turned, Back, live_after, live_from, live}
use Rattle.gp_syntax.specs.Replay.{StepsTo, BacksFit}
use Rattle.gp_syntax.specs.Tree.{item_of}
use Rattle.gp_syntax.proofs.Traces.{live_from-append}
use Rattle.gp_journal.specs.Trail as trails
use Rattle.gp_journal.specs.Journal.{items_of}
use Rattle.gp_derivation.specs.StepAnew.{StepAnew, StepsAnewTo}
use Rattle.gp_derivation.specs.Upgrade.{Renumbers, RenumbersAll}
use Rattle.gp_derivation.specs.inside.Table as tables
use Rattle.gp_derivation.specs.inside.Led.{LedBoth, Led}

-- ---- the first ones of a list

length-taken : {X : Type 0} (n : ℕ) (xs : List X) → n ≤ length xs → length (take n xs) ≡ n
length-taken zero xs h = refl
length-taken (suc n) [] h = absurd (omega arith)
length-taken (suc n) (x ∷ xs) h = ap suc (length-taken n xs (omega arith))

taken_all : {X : Type 0} (xs : List X) → take (length xs - 0) xs ≡ xs
taken_all xs = take_long (length xs - 0) xs (omega arith)

taken_less : {X : Type 0} (k : ℕ) (xs : List X) (x : X) → take (length (xs ++ x ∷ []) - suc k) (xs ++ x ∷ []) ≡ take (length xs - k) xs
taken_less k xs x = rw (length-append, one_less (length xs) k) (take_short (length xs - k) xs (x ∷ []) (no_more (length xs) k))

-- ---- live steps

pub live_more : (s : List Item) (i : Item) → live (s ++ i ∷ []) ≡ live_after (live s) i
live_more s i = live_from-append s (i ∷ []) []

abbrev pub OneFits : ℕ → Item → Type 0
OneFits n (Stepped m) = Unit {0}
OneFits n Turned = Unit {0}
OneFits n (Back k) = k ≤ n

abbrev count_after : ℕ → Item → ℕ
count_after n (Stepped m) = n + 1
count_after n Turned = n
count_after n (Back k) = n - k

abbrev count_from : ℕ → List Item → ℕ
count_from n [] = n
count_from n (i ∷ s) = count_from (count_after n i) s

length-after : (ms : List Found) (i : Item) → length (live_after ms i) ≡ count_after (length ms) i
length-after ms (Stepped m) = length-append ms (m ∷ [])
length-after ms Turned = refl
length-after ms (Back k) = length-taken (length ms - k) ms (no_more (length ms) k)

length-live : (ms : List Found) (s : List Item) → length (live_from ms s) ≡ count_from (length ms) s
length-live ms [] = refl
length-live ms (i ∷ s) = length-live (live_after ms i) s ∙ ap (λ n. count_from n s) (length-after ms i)

counted_more : (n : ℕ) (s : List Item) (i : Item) → BacksFit n s → OneFits (count_from n s) i → BacksFit n (s ++ i ∷ [])
counted_more n [] (Stepped m) b o = tt
counted_more n [] Turned b o = tt
counted_more n [] (Back k) b o = (o, tt)
counted_more n (Stepped m ∷ s) i b o = counted_more (n + 1) s i b o
counted_more n (Turned ∷ s) i b o = counted_more n s i b o
counted_more n (Back k ∷ s) i b o = (b.0, counted_more (n - k) s i b.1 o)

counted_last : (n : ℕ) (s : List Item) (i : Item) → BacksFit n (s ++ i ∷ []) → OneFits (count_from n s) i
counted_last n [] (Stepped m) b = tt
counted_last n [] Turned b = tt
counted_last n [] (Back k) b = b.0
counted_last n (Stepped m ∷ s) i b = counted_last (n + 1) s i b
counted_last n (Turned ∷ s) i b = counted_last n s i b
counted_last n (Back k ∷ s) i b = counted_last (n - k) s i b.1

pub fits_more : (s : List Item) (i : Item) → BacksFit 0 s → OneFits (length (live s)) i → BacksFit 0 (s ++ i ∷ [])
fits_more s i b o = counted_more 0 s i b (subst (λ n. OneFits n i) (length-live [] s) o)

pub fits_last : (s : List Item) (i : Item) → BacksFit 0 (s ++ i ∷ []) → OneFits (length (live s)) i
fits_last s i b = subst (λ n. OneFits n i) (sym (length-live [] s)) (counted_last 0 s i b)

-- ---- steps

-- the rule of the match's number makes the step that makes all edges anew
abbrev pub StepsAnewBy : List Rule → Graph → Found → Graph → Type 0
StepsAnewBy rules g m h = (r : Rule) × (slice_get rules m.rule ≡ Some r) × StepAnew r g m h

pub anew_more : (rules : List Rule) (g : Graph) (ms : List Found) (h k : Graph) (m : Found) → StepsAnewTo rules g ms h → StepsAnewBy rules h m k → StepsAnewTo rules g (ms ++ m ∷ []) k
anew_more rules g [] h k m w s = (k, s.0, s.1, subst (λ x. StepAnew s.0 x m k) w s.2, refl)
anew_more rules g (n ∷ ms) h k m w s = (w.0, w.1, w.2, w.3, anew_more rules w.0 ms h k m w.4 s)

pub anew_split : (rules : List Rule) (g : Graph) (ms : List Found) (k : Graph) (m : Found) → StepsAnewTo rules g (ms ++ m ∷ []) k → (h : Graph) × StepsAnewTo rules g ms h × StepsAnewBy rules h m k
anew_split rules g [] k m w = (g, refl, (w.1, w.2, subst (λ x. StepAnew w.1 g m x) (sym w.4) w.3))
anew_split rules g (n ∷ ms) k m w = let s = anew_split rules w.0 ms k m w.4 in (s.0, (w.0, w.1, w.2, w.3, s.1), s.2)

pub steps_more : (rules : List Rule) (g : Graph) (ms : List Found) (h k : Graph) (m : Found) (r : Rule) → slice_get rules m.rule ≡ Some r → Step r h m k → StepsTo rules g ms h → StepsTo rules g (ms ++ m ∷ []) k
steps_more rules g [] h k m r is s w = (k, r, is, subst (λ x. Step r x m k) w s, refl)
steps_more rules g (n ∷ ms) h k m r is s w = (w.0, w.1, w.2, w.3, steps_more rules w.0 ms h k m r is s w.4)

-- ---- items

pub renumbers_more : (s t : List Item) (i j : Item) → RenumbersAll s t → Renumbers i j → RenumbersAll (s ++ i ∷ []) (t ++ j ∷ [])
renumbers_more [] [] i j r o = (o, tt)
renumbers_more [] (y ∷ t) i j r o = absurd r
renumbers_more (x ∷ s) [] i j r o = absurd r
renumbers_more (x ∷ s) (y ∷ t) i j r o = (r.0, renumbers_more s t i j r.1 o)

pub as_long : (s t : List Item) → RenumbersAll s t → length s ≡ length t
as_long [] [] r = refl
as_long [] (y ∷ t) r = absurd r
as_long (x ∷ s) [] r = absurd r
as_long (x ∷ s) (y ∷ t) r = ap suc (as_long s t r.1)

pub items-more : (is : List ItemTree) (i : ItemTree) → items_of (is ++ i ∷ []) ≡ items_of is ++ item_of i ∷ []
items-more [] i = refl
items-more (j ∷ is) i = ap (λ l. item_of j ∷ l) (items-more is i)

-- ---- what is led

pub led_both : (rules : List Rule) (host : Graph) (ms ns : List Found) (t : List (Option ℕ)) (h : Graph) (us : List (List (Option ℕ))) (bs : List Graph) → Led rules host ms ns t h us bs → LedBoth rules host ms ns t h
led_both rules host ms ns t h [] [] l = l.2
led_both rules host ms ns t h [] (b ∷ bs) l = absurd l
led_both rules host ms ns t h (u ∷ us) [] l = absurd l
led_both rules host ms ns t h (u ∷ us) (b ∷ bs) l = l.6

one_longer : (n k m : ℕ) → n ≡ k + 1 → k ≡ m → n ≡ suc m
one_longer n k m e f = omega arith

pub length-was : (rules : List Rule) (host : Graph) (ms ns : List Found) (t : List (Option ℕ)) (h : Graph) (us : List (List (Option ℕ))) (bs : List Graph) → Led rules host ms ns t h us bs → length ms ≡ length bs
length-was rules host ms ns t h [] [] l = ap length l.0
length-was rules host ms ns t h [] (b ∷ bs) l = absurd l
length-was rules host ms ns t h (u ∷ us) [] l = absurd l
length-was rules host ms ns t h (u ∷ us) (b ∷ bs) l = one_longer (length ms) (length l.0) (length bs) (ap length l.4 ∙ length-append l.0 (l.1 ∷ [])) (length-was rules host l.0 l.2 u b us bs l.7)

pub length-now : (rules : List Rule) (host : Graph) (ms ns : List Found) (t : List (Option ℕ)) (h : Graph) (us : List (List (Option ℕ))) (bs : List Graph) → Led rules host ms ns t h us bs → length ns ≡ length bs
length-now rules host ms ns t h [] [] l = ap length l.1
length-now rules host ms ns t h [] (b ∷ bs) l = absurd l
length-now rules host ms ns t h (u ∷ us) [] l = absurd l
length-now rules host ms ns t h (u ∷ us) (b ∷ bs) l = one_longer (length ns) (length l.2) (length bs) (ap length l.5 ∙ length-append l.2 (l.3 ∷ [])) (length-now rules host l.0 l.2 u b us bs l.7)

pub length-tables : (rules : List Rule) (host : Graph) (ms ns : List Found) (t : List (Option ℕ)) (h : Graph) (us : List (List (Option ℕ))) (bs : List Graph) → Led rules host ms ns t h us bs → length us ≡ length bs
length-tables rules host ms ns t h [] [] l = refl
length-tables rules host ms ns t h [] (b ∷ bs) l = absurd l
length-tables rules host ms ns t h (u ∷ us) [] l = absurd l
length-tables rules host ms ns t h (u ∷ us) (b ∷ bs) l = ap suc (length-tables rules host l.0 l.2 u b us bs l.7)

pub led_back : (k : ℕ) (rules : List Rule) (host : Graph) (ms ns : List Found) (t : List (Option ℕ)) (h : Graph) (us : List (List (Option ℕ))) (bs : List Graph) (c : ℕ) → k ≤ length bs → Led rules host ms ns t h us bs →
    Led rules host (take (length ms - k) ms) (take (length ns - k) ns)
    (tables.back_by k (record { now = t; before = us })).now (trails.back_by k (record { graph = h; before = bs; caught = c })).graph
    (tables.back_by k (record { now = t; before = us })).before (trails.back_by k (record { graph = h; before = bs; caught = c })).before
led_back zero rules host ms ns t h us bs c w l = rw (taken_all ms, taken_all ns) l
led_back (suc k) rules host ms ns t h [] [] c w l = absurd (omega arith)
led_back (suc k) rules host ms ns t h [] (b ∷ bs) c w l = absurd l
led_back (suc k) rules host ms ns t h (u ∷ us) [] c w l = absurd l
led_back (suc k) rules host ms ns t h (u ∷ us) (b ∷ bs) c w l =
    let e : take (length ms - suc k) ms ≡ take (length l.0 - k) l.0 = ap (λ xs. take (length xs - suc k) xs) l.4 ∙ taken_less k l.0 l.1 in
    let f : take (length ns - suc k) ns ≡ take (length l.2 - k) l.2 = ap (λ xs. take (length xs - suc k) xs) l.5 ∙ taken_less k l.2 l.3 in
    rw (e, f) (led_back k rules host l.0 l.2 u b us bs c (omega arith) l.7)
