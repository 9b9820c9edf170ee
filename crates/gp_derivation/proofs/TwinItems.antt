-- Items that are the same but for the numbers of edges.
use Rattle.std.proofs.Common.{◌≡◌, ℕ, ◌+◌, ◌-◌, min, List, [], ◌∷◌, ◌++◌, map, length, take, drop, slice_get, Some, refl, sym, ap, ◌∙◌}
use Rattle.std.specs.Option.{option_map}
use Rattle.std.proofs.lemmas.List.{length-take, length_push, length-map, take-map, drop-map}
use Rattle.std.proofs.lemmas.Option.{slice_get-map}
use Rattle.gp_syntax.specs.Rule.{Found}
use Rattle.gp_syntax.specs.Run.{Item, Stepped, Turned, Back, live_from, live}
use Rattle.gp_derivation.specs.Upgrade.{Renumbers, RenumbersAll}
use Rattle.gp_derivation.proofs.Tables.{mapped}
use Rattle.gp_certify.specs.Places.{between, IsTakenBack}

-- the item without its edges
abbrev pub bare : Item → Item
bare (Stepped m) = Stepped (record m { edges = [] })
bare Turned = Turned
bare (Back k) = Back k

-- items that are the same but for these
abbrev pub AreSame : List Item → List Item → Type 0
AreSame t u = map bare t ≡ map bare u

bare_as_it_was : (i j : Item) → Renumbers i j → bare i ≡ bare j
bare_as_it_was (Stepped m) j r = sym (ap bare r.2)
bare_as_it_was Turned j r = sym (ap bare r)
bare_as_it_was (Back k) j r = sym (ap bare r)

same_as_they_were : (s t : List Item) → RenumbersAll s t → AreSame s t
same_as_they_were [] [] r = refl
same_as_they_were [] (j ∷ t) r = absurd r
same_as_they_were (i ∷ s) [] r = absurd r
same_as_they_were (i ∷ s) (j ∷ t) r = λ k. bare_as_it_was i j r.0 k ∷ same_as_they_were s t r.1 k

pub both_same : (s t u : List Item) → RenumbersAll s t → RenumbersAll s u → AreSame t u
both_same s t u r q = sym (same_as_they_were s t r) ∙ same_as_they_were s u q

-- ---- the same items at each place

pub same_count : (t u : List Item) → AreSame t u → length u ≡ length t
same_count t u e = sym (length-map u bare) ∙ sym (ap length e) ∙ length-map t bare

same_item : (t u : List Item) (i : ℕ) (x : Item) → AreSame t u → slice_get t i ≡ Some x → (y : Item) × (slice_get u i ≡ Some y) × (bare y ≡ bare x)
same_item t u i x e h =
    mapped bare (slice_get u i) (bare x) (sym (slice_get-map bare u i) ∙ sym (ap (λ ys. slice_get ys i) e) ∙ slice_get-map bare t i ∙ ap (option_map bare) h)

is_step : (m : Found) (y : Item) → bare y ≡ Stepped (record m { edges = [] }) → (n : Found) × (y ≡ Stepped n) × (n.rule ≡ m.rule)
is_step m (Stepped n) e = let same : record n { edges = [] } ≡ record m { edges = [] } = cc in (n, refl, ap (λ (f : Found). f.rule) same)
is_step m Turned e = absurd cc
is_step m (Back k) e = absurd cc

is_turn : (y : Item) → bare y ≡ Turned → y ≡ Turned
is_turn (Stepped n) e = absurd cc
is_turn Turned e = refl
is_turn (Back k) e = absurd cc

is_back : (n : ℕ) (y : Item) → bare y ≡ Back n → y ≡ Back n
is_back n (Stepped m) e = absurd cc
is_back n Turned e = absurd cc
is_back n (Back k) e = e

pub same_step : (t u : List Item) (i : ℕ) (m : Found) → AreSame t u → slice_get t i ≡ Some (Stepped m) → (n : Found) × (slice_get u i ≡ Some (Stepped n)) × (n.rule ≡ m.rule)
same_step t u i m e h =
    let y = same_item t u i (Stepped m) e h in
    let n = is_step m y.0 y.2 in
    (n.0, y.1 ∙ ap (λ z. Some z) n.1, n.2)

pub same_turn : (t u : List Item) (i : ℕ) → AreSame t u → slice_get t i ≡ Some Turned → slice_get u i ≡ Some Turned
same_turn t u i e h = let y = same_item t u i Turned e h in y.1 ∙ ap (λ z. Some z) (is_turn y.0 y.2)

-- ---- as many live steps

as_many_live : (t : List Item) (ms ns : List Found) → length ms ≡ length ns → length (live_from ms t) ≡ length (live_from ns (map bare t))
as_many_live [] ms ns e = e
as_many_live (Stepped m ∷ t) ms ns e =
    as_many_live t (ms ++ m ∷ []) (ns ++ record m { edges = [] } ∷ []) (length_push ms m ∙ ap (λ k. k + 1) e ∙ sym (length_push ns (record m { edges = [] })))
as_many_live (Turned ∷ t) ms ns e = as_many_live t ms ns e
as_many_live (Back k ∷ t) ms ns e =
    as_many_live t (take (length ms - k) ms) (take (length ns - k) ns)
    (length-take (length ms - k) ms ∙ ap (λ n. min (n - k) n) e ∙ sym (length-take (length ns - k) ns))

between_bare : (t : List Item) (i j : ℕ) → map bare (between t i j) ≡ between (map bare t) i j
between_bare t i j = sym (take-map bare (j - i) (drop i t)) ∙ ap (take (j - i)) (sym (drop-map bare i t))

same_live : (t u : List Item) (i j : ℕ) → AreSame t u → length (live (between t i j)) ≡ length (live (between u i j))
same_live t u i j e =
    as_many_live (between t i j) [] [] refl ∙ ap (λ z. length (live z)) (between_bare t i j ∙ ap (λ z. between z i j) e ∙ sym (between_bare u i j)) ∙ sym (as_many_live (between u i j) [] [] refl)

pub same_back : (t u : List Item) (i m : ℕ) → AreSame t u → IsTakenBack t i m → IsTakenBack u i m
same_back t u i m e h =
    let n = length (live (between t i m)) in
    let y = same_item t u m (Back n) e h in
    y.1 ∙ ap (λ z. Some z) (is_back n y.0 y.2) ∙ ap (λ k. Some (Back k)) (same_live t u i m e)
