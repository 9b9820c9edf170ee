-- How a table is held, after each call.
use Rattle.std.proofs.Common.{◌≡◌, ℕ, zero, suc, ◌+◌, ◌-◌, ◌<◌, ◌≤◌, List, [], ◌∷◌, ◌++◌, All, map, zip, reverse, length, take, drop, set, get_or, Option, Some, None, option_map, inl, inr, sym, subst, ap, refl, ◌∙◌, arith, add-zero, add-one, zero-add, length-set, length-append, get_or-set_same, get_or-set_other}
use Rattle.std.specs.Prelude.{option_and_then}
use Rattle.std.proofs.lemmas.Bool.{cases_eq}
use Rattle.std.proofs.lemmas.List.{reverse-append, at_drop_more, length-map, length-take, take_at, ext_get_or}
use Rattle.std.proofs.lemmas.Option.{none-some, same_Some}
use Rattle.gp_values.specs.Graph.{Graph, Edge, edge_at}
use Rattle.gp_syntax.specs.Images.{EdgeImage}
use Rattle.gp_derivation.specs.declared.table.Taken.{Taken}
use Rattle.gp_derivation.specs.declared.table.Replaced.{Replaced}
use Rattle.gp_derivation.specs.inside.Table.{Tables, today, all_today, own_numbers, emptied, all_emptied, moved, stepped, undone_of, back_by}
use Rattle.gp_derivation.specs.inside.Held.{taken_of, all_put_back, taken_back, befores, AllFit}

-- ---- entries by their place

today_at : (t : List (Option ℕ)) (e : ℕ) → today t e ≡ get_or t e None
today_at [] e = refl
today_at (o ∷ os) zero = refl
today_at (o ∷ os) (suc e) = today_at os e

emptied_set : (e : ℕ) (t : List (Option ℕ)) → emptied e t ≡ set t e None
emptied_set e [] = refl
emptied_set zero (o ∷ os) = refl
emptied_set (suc e) (o ∷ os) = ap (λ l. o ∷ l) (emptied_set e os)

below_at : (t : List (Option ℕ)) (e k : ℕ) → get_or t e None ≡ Some k → e < length t
below_at [] e k h = absurd (none-some k h)
below_at (o ∷ os) zero k h = omega arith
below_at (o ∷ os) (suc e) k h = omega (arith, below_at os e k h)

length_emptied : (es : List ℕ) (t : List (Option ℕ)) → length (all_emptied es t) ≡ length t
length_emptied [] t = refl
length_emptied (e ∷ es) t = length_emptied es (emptied e t) ∙ (ap length (emptied_set e t) ∙ length-set t e None)

length_put_back : (ps : List Taken) (t : List (Option ℕ)) → length (all_put_back ps t) ≡ length t
length_put_back [] t = refl
length_put_back (p ∷ ps) t = length_put_back ps (set t p.was (Some p.number)) ∙ length-set t p.was (Some p.number)

length_taken_back : (r : Replaced) (t : List (Option ℕ)) → length (taken_back r t) ≡ length t - r.made
length_taken_back r t =
    let e = length_put_back r.taken.items (take (length t - r.made) t) in
    let l = length-take (length t - r.made) t in
    omega arith

pub today_got : (t u : List (Option ℕ)) (e : ℕ) (o : Option ℕ) → u ≡ t → o ≡ get_or u e None → o ≡ today t e
today_got t u e o same h = h ∙ (ap (λ (l : List (Option ℕ)). get_or l e None) same ∙ sym (today_at t e))

pub next_out : (was : List EdgeImage) (i : ℕ) (d : EdgeImage) (t end : List (Option ℕ)) → i < length was → all_emptied (map (λ (i : EdgeImage). i.number) (drop i was)) t ≡ end
    → all_emptied (map (λ (i : EdgeImage). i.number) (drop (i + 1) was)) (set t (get_or was i d).number None) ≡ end
next_out was i d t end l h =
    let one : all_emptied (map (λ (i : EdgeImage). i.number) (drop i was)) t ≡ all_emptied (map (λ (i : EdgeImage). i.number) (drop (i + 1) was)) (emptied (get_or was i d).number t) = at_drop_more (λ is. all_emptied (map (λ (i : EdgeImage). i.number) is) t) was i d l in
    ap (all_emptied (map (λ (i : EdgeImage). i.number) (drop (i + 1) was))) (sym (emptied_set (get_or was i d).number t)) ∙ (sym one ∙ h)

-- one more entry of its own number
more_from : (g : Graph) (e n : ℕ) → own_numbers g e (suc n) ≡ own_numbers g e n ++ option_map (λ (d : Edge). e + n) (edge_at g (e + n)) ∷ []
more_from g e zero = ap (λ (k : ℕ). option_map (λ (d : Edge). k) (edge_at g k) ∷ []) (sym (add-zero e))
more_from g e (suc n) =
    let k : e + 1 + n ≡ e + suc n = omega arith in
    ap (λ l. option_map (λ (d : Edge). e) (edge_at g e) ∷ l) (more_from g (e + 1) n ∙ ap (λ (k : ℕ). own_numbers g (e + 1) n ++ option_map (λ (d : Edge). k) (edge_at g k) ∷ []) k)

more_own : (g : Graph) (n : ℕ) → own_numbers g 0 (n + 1) ≡ own_numbers g 0 n ++ option_map (λ (d : Edge). n) (edge_at g n) ∷ []
more_own g n = ap (own_numbers g 0) (add-one n) ∙ (more_from g 0 n ∙ ap (λ (k : ℕ). own_numbers g 0 n ++ option_map (λ (d : Edge). k) (edge_at g k) ∷ []) (zero-add n))

pub one_own : (g : Graph) (n : ℕ) (t : List (Option ℕ)) (o : Option ℕ) → t ≡ own_numbers g 0 n → o ≡ option_map (λ (d : Edge). n) (edge_at g n) → t ++ o ∷ [] ≡ own_numbers g 0 (n + 1)
one_own g n t o h e = ap (λ l. l ++ o ∷ []) h ∙ (ap (λ p. own_numbers g 0 n ++ p ∷ []) e ∙ sym (more_own g n))

-- ---- what a step takes out

record HasFirst (t : List (Option ℕ)) (e : ℕ) (es ks : List ℕ) : Type 0 where
  pub first : ℕ
  pub rest : List ℕ
  pub here : get_or t e None ≡ Some first
  pub others : all_today t es ≡ Some rest
  pub is : ks ≡ first ∷ rest

has_first : (t : List (Option ℕ)) (e : ℕ) (es ks : List ℕ) → all_today t (e ∷ es) ≡ Some ks → HasFirst t e es ks
has_first t e es ks h = by (today t e) refl (all_today t es) refl h
  where
    by : (o : Option ℕ) → today t e ≡ o → (p : Option (List ℕ)) → all_today t es ≡ p → option_and_then (λ k. option_map (λ (l : List ℕ). k ∷ l) p) o ≡ Some ks → HasFirst t e es ks
    by None i p j g = absurd (none-some ks g)
    by (Some k) i None j g = absurd (none-some ks g)
    by (Some k) i (Some l) j g = record { first = k; rest = l; here = sym (today_at t e) ∙ i; others = j; is = sym (same_Some (k ∷ l) ks g) }

-- the entries are in the table
abbrev AllThere : List (Option ℕ) → List Taken → Type 0
AllThere t [] = Unit {0}
AllThere t (p ∷ ps) = (get_or t p.was None ≡ Some p.number) × AllThere t ps

all_there : (t : List (Option ℕ)) (was now : List EdgeImage) → all_today t (map (λ (i : EdgeImage). i.number) was) ≡ Some (map (λ (i : EdgeImage). i.number) now) → AllThere t (map taken_of (zip was now))
all_there t [] now h = tt
all_there t (i ∷ is) [] h = tt
all_there t (i ∷ is) (k ∷ ks) h =
    let f = has_first t i.number (map (λ (i : EdgeImage). i.number) is) (map (λ (i : EdgeImage). i.number) (k ∷ ks)) h in
    let one : get_or t i.number None ≡ Some k.number = cc (f.here, f.is) in
    let rest : all_today t (map (λ (i : EdgeImage). i.number) is) ≡ Some (map (λ (i : EdgeImage). i.number) ks) = cc (f.others, f.is) in
    (one, all_there t is ks rest)

same_places : (t : List (Option ℕ)) (was now : List EdgeImage) → all_today t (map (λ (i : EdgeImage). i.number) was) ≡ Some (map (λ (i : EdgeImage). i.number) now) → map (λ (p : Taken). p.was) (map taken_of (zip was now)) ≡ map (λ (i : EdgeImage). i.number) was
same_places t [] now h = refl
same_places t (i ∷ is) [] h =
    let f = has_first t i.number (map (λ (i : EdgeImage). i.number) is) [] h in
    let no : [] ≡ f.first ∷ f.rest = f.is in
    absurd (cc no)
same_places t (i ∷ is) (k ∷ ks) h =
    let f = has_first t i.number (map (λ (i : EdgeImage). i.number) is) (map (λ (i : EdgeImage). i.number) (k ∷ ks)) h in
    let rest : all_today t (map (λ (i : EdgeImage). i.number) is) ≡ Some (map (λ (i : EdgeImage). i.number) ks) = cc (f.others, f.is) in
    ap (λ l. i.number ∷ l) (same_places t is ks rest)

pub images_below : (t : List (Option ℕ)) (was : List EdgeImage) (ks : List ℕ) → all_today t (map (λ (i : EdgeImage). i.number) was) ≡ Some ks → All (λ (i : EdgeImage). i.number < length t) was
images_below t [] ks h j d l = absurd (omega arith)
images_below t (i ∷ is) ks h zero d l = below_at t i.number _ (has_first t i.number (map (λ (i : EdgeImage). i.number) is) ks h).here
images_below t (i ∷ is) ks h (suc j) d l = images_below t is _ (has_first t i.number (map (λ (i : EdgeImage). i.number) is) ks h).others j d (omega arith)

places_below : (t : List (Option ℕ)) (ps : List Taken) → AllThere t ps → All (λ (p : Taken). p.was < length t) ps
places_below t [] h j d l = absurd (omega arith)
places_below t (p ∷ ps) h zero d l = below_at t p.was p.number h.0
places_below t (p ∷ ps) h (suc j) d l = places_below t ps h.1 j d (omega arith)

-- ---- putting it back

Away : ℕ → List ℕ → Type 0
Away e [] = Unit {0}
Away e (f ∷ fs) = (e ≡ f → ⊥) × Away e fs

emptied_away : (es : List ℕ) (t : List (Option ℕ)) (e : ℕ) → Away e es → get_or (all_emptied es t) e None ≡ get_or t e None
unfolding Away
emptied_away [] t e a = refl
emptied_away (f ∷ fs) t e a = emptied_away fs (emptied f t) e a.1 ∙ (ap (λ l. get_or l e None) (emptied_set f t) ∙ get_or-set_other t f e None None a.0)

-- where two tables differ at most at the places of entries of the one, putting these in the other makes the one
made_same : (ps : List Taken) (u t : List (Option ℕ)) → length u ≡ length t → AllThere t ps → ((e : ℕ) → Away e (map (λ (p : Taken). p.was) ps) → get_or u e None ≡ get_or t e None) → all_put_back ps u ≡ t
unfolding Away
made_same [] u t len there same = ext_get_or None u t len (λ e _. same e tt)
made_same (p ∷ ps) u t len there same = made_same ps (set u p.was (Some p.number)) t (length-set u p.was (Some p.number) ∙ len) there.1 (λ e a. elim (cases_eq e p.was) [ inl s ↦ at e s | inr d ↦ get_or-set_other u p.was e (Some p.number) None d ∙ same e (d, a) ])
  where
    below : p.was < length u
    below = omega (arith, below_at t p.was p.number there.0)

    at : (e : ℕ) → e ≡ p.was → get_or (set u p.was (Some p.number)) e None ≡ get_or t e None
    at e s = subst (λ (k : ℕ). get_or (set u p.was (Some p.number)) k None ≡ get_or t k None) (sym s) (get_or-set_same u p.was (Some p.number) None below ∙ sym there.0)

-- taking back what a step did makes the table that was
back_is : (t : List (Option ℕ)) (was now : List EdgeImage) (made : List ℕ) (r : Replaced) → all_today t (map (λ (i : EdgeImage). i.number) was) ≡ Some (map (λ (i : EdgeImage). i.number) now)
    → r.taken.items ≡ map taken_of (zip was now) → r.made ≡ length made → taken_back r (moved t (map (λ (i : EdgeImage). i.number) was) made) ≡ t
back_is t was now made r h taken size =
    let es = map (λ (i : EdgeImage). i.number) was in
    let len = length_emptied es t in
    let all = length-append (all_emptied es t) (map Some made) in
    let more = length-map made (λ (k : ℕ). Some k) in
    let rest : take (length (moved t es made) - r.made) (moved t es made) ≡ all_emptied es t = take_at (all_emptied es t) (map Some made) _ (omega arith) in
    let same : all_put_back (map taken_of (zip was now)) (all_emptied es t) ≡ t = made_same (map taken_of (zip was now)) (all_emptied es t) t len (all_there t was now h) (λ e a. emptied_away es t e (subst (Away e) (same_places t was now h) a)) in
    ap (λ ps. all_put_back ps (take (length (moved t es made) - r.made) (moved t es made))) taken ∙ (ap (all_put_back (map taken_of (zip was now))) rest ∙ same)

pub stepped_is : (t : List (Option ℕ)) (rs : List Replaced) (r : Replaced) (was now : List EdgeImage) (made : List ℕ) → all_today t (map (λ (i : EdgeImage). i.number) was) ≡ Some (map (λ (i : EdgeImage). i.number) now)
    → r.taken.items ≡ map taken_of (zip was now) → r.made ≡ length made
    → record { now = moved t (map (λ (i : EdgeImage). i.number) was) made; before = befores (reverse (rs ++ r ∷ [])) (moved t (map (λ (i : EdgeImage). i.number) was) made) }
    ≡ stepped (record { now = t; before = befores (reverse rs) t }) (map (λ (i : EdgeImage). i.number) was) made
stepped_is t rs r was now made h taken size =
    let m = moved t (map (λ (i : EdgeImage). i.number) was) made in
    let back = back_is t was now made r h taken size in
    ap (λ bs. record { now = m; before = bs }) (ap (λ l. befores l m) (reverse-append rs (r ∷ [])) ∙ (ap (λ b. b ∷ befores (reverse rs) b) back))

pub stepped_fits : (t : List (Option ℕ)) (rs : List Replaced) (r : Replaced) (was now : List EdgeImage) (made : List ℕ) → all_today t (map (λ (i : EdgeImage). i.number) was) ≡ Some (map (λ (i : EdgeImage). i.number) now)
    → r.taken.items ≡ map taken_of (zip was now) → r.made ≡ length made → AllFit (reverse rs) (length t)
    → AllFit (reverse (rs ++ r ∷ [])) (length (moved t (map (λ (i : EdgeImage). i.number) was) made))
stepped_fits t rs r was now made h taken size fits =
    let es = map (λ (i : EdgeImage). i.number) was in
    let m = moved t es made in
    let len = length_emptied es t in
    let all = length-append (all_emptied es t) (map Some made) in
    let more = length-map made (λ (k : ℕ). Some k) in
    let left : length t ≡ length m - r.made = omega arith in
    let enough : r.made ≤ length m = omega arith in
    let below : All (λ (p : Taken). p.was < length t) r.taken.items = subst (All (λ (p : Taken). p.was < length t)) (sym taken) (places_below t (map taken_of (zip was now)) (all_there t was now h)) in
    let both : All (λ (p : Taken). p.was < length m - r.made) r.taken.items × AllFit (reverse rs) (length m - r.made) = subst (λ (n : ℕ). All (λ (p : Taken). p.was < n) r.taken.items × AllFit (reverse rs) n) left (below, fits) in
    subst (λ l. AllFit l (length m)) (sym (reverse-append rs (r ∷ []))) (enough, both.0, both.1)

-- ---- taking back

last_first : (rs : List Replaced) (r : Replaced) → reverse (rs ++ r ∷ []) ≡ r ∷ reverse rs
last_first rs r = reverse-append rs (r ∷ [])

pub back_fits : (rs us : List Replaced) (r : Replaced) (t u : List (Option ℕ)) → rs ≡ us ++ r ∷ [] → u ≡ taken_back r t → AllFit (reverse rs) (length t) → AllFit (reverse us) (length u)
back_fits rs us r t u is e h =
    let fits : AllFit (r ∷ reverse us) (length t) = subst (λ l. AllFit l (length t)) (ap reverse is ∙ last_first us r) h in
    let size : length t - r.made ≡ length u = sym (ap length e ∙ length_taken_back r t) in
    subst (AllFit (reverse us)) size fits.2

shorter : (n : ℕ) (t : List (Option ℕ)) (bs : List (List (Option ℕ))) → suc n ≤ length bs → n ≤ length (undone_of t bs).before
shorter n t [] h = absurd (omega arith)
shorter n t (b ∷ bs) h = omega arith

pub back_step : (j n : ℕ) (t end : Tables) → j ≡ suc n → j ≤ length t.before → back_by j t ≡ end
    → record { left : n ≤ length (undone_of t.now t.before).before; same : back_by n (undone_of t.now t.before) ≡ end }
back_step j n t end e left same = record {
  left = shorter n t.now t.before (omega arith);
  same = subst (λ (k : ℕ). back_by k t ≡ end) e same;
}
